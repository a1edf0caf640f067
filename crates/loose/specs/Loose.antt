-- Loose orders: steps in which an update waits for earlier updates of its class alone, and states that are alike but for the order
-- of updates of different classes. A class function gives each register its class. Every one is allowed: by one that gives all
-- registers one class the steps are those of the event queue, and by one that tells all registers apart updates of one register
-- alone keep their order.
use Rattle.std.specs.Prelude.{◌≡◌, ℕ, Bool, false, ◌&&◌, ◌==◌, nat_lt, List, [], ◌∷◌, filter, Option, Some, None, option_and_then}
use Rattle.std.specs.List.{list_any}
use Rattle.logic4.specs.Vector.{Vector}
use Rattle.model.specs.declared.entry.Entry.{Entry}
use Rattle.model.specs.declared.entry.Entry.TheVariants.{Turn, Update}
use Rattle.model.specs.declared.entry.Refusal.{Refusal}
use Rattle.model.specs.declared.entry.Refusal.TheVariants.{Finished, NotActive, EarlierUpdate}
use Rattle.model.specs.Design.{Design}
use Rattle.model.specs.States.{Action, Evaluate, Event, State, start, due_at}
use Rattle.model.specs.Runs.{Effect, action_in, refused_where, entry_refusal, update_effect, effect, unless_refused, joined, silent}
use Rattle.model.specs.Steps.{IsPermitted}
use Rattle.model.specs.Laws.{evaluations_in}
use Rattle.orders.specs.Alike.{times, updates_in}
use Rattle.loose.specs.declared.transition.LooseTransition.{LooseTransition}
use Rattle.loose.specs.declared.transition.LooseTransition.TheVariants.{Process, FirstOf, Change}

-- those of some writes whose registers are of one class
abbrev pub of_class : (ℕ → ℕ) → ℕ → List (ℕ × Vector) → List (ℕ × Vector)
of_class class c ws = filter (λ w. class w.0 == c) ws

-- the updates of one class among events, in their order
abbrev pub updates_of_class : (ℕ → ℕ) → ℕ → List Event → List (ℕ × Vector)
updates_of_class class c es = of_class class c (updates_in es)

-- events are alike but for the order of updates of different classes
abbrev pub AreAlikeIn : (ℕ → ℕ) → List Event → List Event → Type 0
AreAlikeIn class xs ys =
    record {
      updates : (c : ℕ) → updates_of_class class c xs ≡ updates_of_class class c ys;
      evaluations : (p : ℕ) → evaluations_in p xs ≡ evaluations_in p ys;
    }

-- future events have the same times, and those of each time are alike but for the order of updates of different classes
abbrev pub IsAlikeFutureIn : (ℕ → ℕ) → List (ℕ × Event) → List (ℕ × Event) → Type 0
IsAlikeFutureIn class xs ys =
    record {
      times : times xs ≡ times ys;
      due : (time : ℕ) → AreAlikeIn class (due_at time xs) (due_at time ys);
    }

-- States are alike in classes if they are the same but for the numbers of their events, the next number, the places of evaluations
-- in their regions, and the order of updates of different classes.
abbrev pub AlikeIn : (ℕ → ℕ) → State → State → Type 0
AlikeIn class s t =
    record {
      time : s.time ≡ t.time;
      store : s.store ≡ t.store;
      processes : s.processes ≡ t.processes;
      active : AreAlikeIn class s.active t.active;
      inactive : AreAlikeIn class s.inactive t.inactive;
      nonblocking : AreAlikeIn class s.nonblocking t.nonblocking;
      monitor : s.monitor ≡ t.monitor;
      future_inactive : IsAlikeFutureIn class s.future_inactive t.future_inactive;
      future_nonblocking : IsAlikeFutureIn class s.future_nonblocking t.future_nonblocking;
      finished : s.finished ≡ t.finished;
    }

-- whether an action updates a register of a class
abbrev pub updates_class : (ℕ → ℕ) → ℕ → Action → Bool
updates_class class c (Evaluate p) = false
updates_class class c (Action.Update r v) = class r == c

-- whether an update of a class with a smaller number is active
abbrev pub has_earlier_of_class : (ℕ → ℕ) → ℕ → List Event → ℕ → Bool
has_earlier_of_class class c events number = list_any (λ e. updates_class class c e.1 && nat_lt e.0 number) events

-- an update takes the active update of its class with the least number
abbrev pub loose_update_refusal : (ℕ → ℕ) → State → ℕ → Option Action → Option Refusal
loose_update_refusal class s number (Some (Action.Update r v)) =
    refused_where (has_earlier_of_class class (class r) s.active number) EarlierUpdate None
loose_update_refusal class s number _ = Some NotActive

-- the first reason for which an entry isn't permitted loosely, whatever its turn does: as `entry_refusal` has it, but for updates
abbrev pub loose_entry_refusal : (ℕ → ℕ) → State → Entry → Option Refusal
loose_entry_refusal class s (Update number) = loose_update_refusal class s number (action_in s.active number)
loose_entry_refusal class s entry = entry_refusal s entry

-- no entry is permitted after $finish (17.4.1)
abbrev pub loose_refusal : (ℕ → ℕ) → State → Entry → Option Refusal
loose_refusal class s entry = refused_where s.finished Finished (loose_entry_refusal class s entry)

-- One loose step: what comes of an entry, where it is permitted loosely and its turn, if it is one, is short.
abbrev pub loose_step : (ℕ → ℕ) → Design → State → Entry → Option Effect
loose_step class design s entry = unless_refused (loose_refusal class s entry) (effect design s entry)

-- Where the run isn't finished, an entry is permitted loosely in these cases, and this comes of it: an update that is active, where
-- no update of its class with a smaller number is, and any other entry where it is permitted.
abbrev pub IsPermittedLoosely : (ℕ → ℕ) → Design → State → Entry → Effect → Type 0
IsPermittedLoosely class design s (Update number) e =
    (r : ℕ) × (v : Vector) × (action_in s.active number ≡ Some (Action.Update r v))
    × (has_earlier_of_class class (class r) s.active number ≡ false) × (e ≡ update_effect s number r v)
IsPermittedLoosely class design s entry e = IsPermitted design s entry e

-- from this state the entry leads loosely to what comes of it
abbrev pub IsLooseStep : (ℕ → ℕ) → Design → State → Entry → Effect → Type 0
IsLooseStep class design s entry e = (s.finished ≡ false) × IsPermittedLoosely class design s entry e

-- what comes of entries, after what came before them, where each is permitted loosely where it stands
abbrev pub loose_run_from : (ℕ → ℕ) → Design → Effect → List Entry → Option Effect
loose_run_from class design e [] = Some e
loose_run_from class design e (entry ∷ entries) =
    option_and_then (λ f. loose_run_from class design (joined e f) entries) (loose_step class design e.state entry)

-- what comes of a loose journal, from the start
abbrev pub loose_run : (ℕ → ℕ) → Design → List Entry → Option Effect
loose_run class design journal = loose_run_from class design (silent (start design)) journal

-- the transition of an action: the turn of the process that it evaluates, or the first update of its register's class
abbrev pub loose_transition_of_action : (ℕ → ℕ) → Option Action → Option LooseTransition
loose_transition_of_action class (Some (Evaluate p)) = Some (Process p)
loose_transition_of_action class (Some (Action.Update r v)) = Some (FirstOf (class r))
loose_transition_of_action class None = None

-- the loose transition of an entry
abbrev pub loose_transition_of : (ℕ → ℕ) → State → Entry → Option LooseTransition
loose_transition_of class s (Turn number) = loose_transition_of_action class (action_in s.active number)
loose_transition_of class s (Update number) = loose_transition_of_action class (action_in s.active number)
loose_transition_of class s entry = Some (Change entry)

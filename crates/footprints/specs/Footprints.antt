-- Footprints: what a loose step has to do with other steps, and steps that are apart. The owner of a step is an actor: a process,
-- whose turn it is, or a class of registers, whose first active update it is.
use Rattle.std.specs.Prelude.{◌≡◌, ◌≢◌, ℕ, Bool, false, ◌&&◌, ◌||◌, ◌==◌, if◌then◌else◌, List, [], ◌∷◌, ◌++◌, map, filter, slice_index_or, Option, Some, None, option_map}
use Rattle.std.specs.List.{list_any, enumerate_from}
use Rattle.logic4.specs.Vector.{Vector}
use Rattle.logic4.specs.Operators.{same_vector}
use Rattle.model.specs.declared.entry.Entry.{Entry}
use Rattle.model.specs.declared.entry.Entry.TheVariants.{Turn, Update}
use Rattle.model.specs.Design.{Design, Trigger}
use Rattle.model.specs.Expressions.{Store, value_of}
use Rattle.model.specs.Turns.{NonblockingAssignment, contains}
use Rattle.model.specs.Turns as turns
use Rattle.model.specs.States.{Action, Evaluate, Continuation, State, triggers_of, wakes}
use Rattle.model.specs.Runs.{action_in, has_any, turn_of}
use Rattle.orders.specs.Apart.{NotBoth, given}
use Rattle.loose.specs.declared.transition.LooseTransition.{LooseTransition}
use Rattle.loose.specs.declared.transition.LooseTransition.TheVariants.{Process, FirstOf}

-- a change of a register, with its value before and after
pub record RegisterChange : Type 0 where
  pub register : ℕ
  pub before : Vector
  pub after : Vector

-- the change of a register's value that a write makes, if it makes one
abbrev pub change_made : Vector → ℕ × Vector → List RegisterChange
change_made old w = if same_vector old w.1 then [] else record { register = w.0; before = old; after = w.1 } ∷ []

-- the changes that writes make, each by the store after the writes before it
abbrev pub changes_made : Store → List (ℕ × Vector) → List RegisterChange
changes_made store [] = []
changes_made store (w ∷ ws) = change_made (value_of store w.0) w ++ changes_made (given store w) ws

-- the registers of changes
abbrev pub changed_registers : List RegisterChange → List ℕ
changed_registers changes = map (λ c. c.register) changes

-- whether triggers match one of these changes
abbrev pub matches_any : List Trigger → List RegisterChange → Bool
matches_any triggers changes = list_any (λ c. wakes triggers c.register c.before c.after) changes

-- the processes that changes wake, in the order of their numbers
abbrev pub woken_by_changes : List RegisterChange → List Continuation → List ℕ
woken_by_changes changes processes = map (λ e. e.0) (filter (λ e. matches_any e.1.triggers changes) (enumerate_from 0 processes))

-- the triggers that the processes with these numbers wait for
abbrev pub awaited_by_all : List Continuation → List ℕ → List Trigger
awaited_by_all processes [] = []
awaited_by_all processes (p ∷ ps) =
    (slice_index_or processes p (record { remainder = []; triggers = [] })).triggers ++ awaited_by_all processes ps

-- the class and the time of each update that nonblocking assignments make
abbrev pub assigned : (ℕ → ℕ) → List NonblockingAssignment → List (ℕ × ℕ)
assigned class nbas = map (λ l. (class l.register, l.due)) nbas

-- What a step has to do with others: its owner; the registers that it uses without having written them; its writes, and the changes
-- that these make; the triggers that its process goes on to wait for; the processes that it wakes; the triggers that its own process and
-- these wait for before it; the class and the time of each update that its nonblocking assignments make; what it prints; and whether it
-- meets a $strobe, and $finish.
pub record Footprint : Type 0 where
  pub owner : LooseTransition
  pub uses : List ℕ
  pub writes : List (ℕ × Vector)
  pub changes : List RegisterChange
  pub awaits : List Trigger
  pub woken : List ℕ
  pub ended : List Trigger
  pub assigns : List (ℕ × ℕ)
  pub lines : List ℕ
  pub strobes : Bool
  pub finishes : Bool

-- the footprint of a turn
abbrev pub turn_footprint : (ℕ → ℕ) → State → ℕ → turns.Turn → Footprint
turn_footprint class s p turn =
    record {
      owner = Process p;
      uses = turn.uses;
      writes = turn.writes;
      changes = changes_made s.store turn.writes;
      awaits = triggers_of turn.wait;
      woken = woken_by_changes (changes_made s.store turn.writes) s.processes;
      ended = awaited_by_all s.processes (p ∷ woken_by_changes (changes_made s.store turn.writes) s.processes);
      assigns = assigned class turn.nbas;
      lines = turn.lines;
      strobes = has_any turn.strobes;
      finishes = turn.finish;
    }

-- the footprint of an update: it uses nothing, and writes one register
abbrev pub update_footprint : (ℕ → ℕ) → State → ℕ → Vector → Footprint
update_footprint class s r v =
    record {
      owner = FirstOf (class r);
      uses = [];
      writes = (r, v) ∷ [];
      changes = changes_made s.store ((r, v) ∷ []);
      awaits = [];
      woken = woken_by_changes (changes_made s.store ((r, v) ∷ [])) s.processes;
      ended = awaited_by_all s.processes (woken_by_changes (changes_made s.store ((r, v) ∷ [])) s.processes);
      assigns = [];
      lines = [];
      strobes = false;
      finishes = false;
    }

-- the footprint of an action, where it is an update or has a short turn
abbrev pub action_footprint : (ℕ → ℕ) → Design → State → Option Action → Option Footprint
action_footprint class design s (Some (Evaluate p)) = option_map (turn_footprint class s p) (turn_of design s p)
action_footprint class design s (Some (Action.Update r v)) = Some (update_footprint class s r v)
action_footprint class design s None = None

-- The footprint of an entry that takes an active event. Changes of the regions have none.
abbrev pub footprint : (ℕ → ℕ) → Design → State → Entry → Option Footprint
footprint class design s (Turn number) = action_footprint class design s (action_in s.active number)
footprint class design s (Update number) = action_footprint class design s (action_in s.active number)
footprint class design s _ = None

-- no number is among both of these
abbrev pub Disjoint : List ℕ → List ℕ → Type 0
Disjoint xs ys = (n : ℕ) → (contains xs n && contains ys n) ≡ false

-- the process of an actor, if it is one
abbrev pub process_of_actor : LooseTransition → List ℕ
process_of_actor (Process p) = p ∷ []
process_of_actor _ = []

-- the processes that a step concerns: its own, and those that it wakes
abbrev pub concerned : Footprint → List ℕ
concerned f = process_of_actor f.owner ++ f.woken

-- the registers that a step writes
abbrev pub written_registers : Footprint → List ℕ
written_registers f = map (λ w. w.0) f.writes

-- whether a step makes an update of a class for a time
abbrev pub assigns_for : Footprint → ℕ → ℕ → Bool
assigns_for f c due = list_any (λ a. (a.0 == c) && (a.1 == due)) f.assigns

-- Two steps are apart: their owners differ, and no process is concerned by both; no register is written by both, nor used by one and
-- changed by the other; no change of one matches a trigger that the other's process goes on to wait for, nor one for which a process
-- that the other concerns waits before it; no class has an update for one time from both; they don't both print, nor both meet a $strobe;
-- and where one finishes, the other neither prints nor finishes.
-- Where both are taken from one state, the triggers of before say no more than that they concern different processes. Where one is taken
-- after the other, they say that it would wake the same processes if it were taken first.
-- An update that is active and an assignment of its class for now need no condition: the update that is made isn't active yet.
abbrev pub AreApart : Footprint → Footprint → Type 0
AreApart f g =
    record {
      owners : f.owner ≢ g.owner;
      processes : Disjoint (concerned f) (concerned g);
      writes : Disjoint (written_registers f) (written_registers g);
      uses : Disjoint f.uses (changed_registers g.changes);
      other_uses : Disjoint g.uses (changed_registers f.changes);
      awaits : matches_any f.awaits g.changes ≡ false;
      other_awaits : matches_any g.awaits f.changes ≡ false;
      ended : matches_any f.ended g.changes ≡ false;
      other_ended : matches_any g.ended f.changes ≡ false;
      assigns : (c due : ℕ) → (assigns_for f c due && assigns_for g c due) ≡ false;
      lines : NotBoth f.lines g.lines;
      strobes : (f.strobes && g.strobes) ≡ false;
      finishes : (f.finishes && (has_any g.lines || g.finishes)) ≡ false;
      other_finishes : (g.finishes && (has_any f.lines || f.finishes)) ≡ false;
    }

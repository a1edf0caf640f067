-- Loose runs told by their loose transitions in place of numbered entries. In a state a transition is that of one entry, so what comes
-- of transitions is told by functions.
use Rattle.std.specs.Prelude.{ℕ, Bool, List, [], ◌∷◌, Option, Some, None, find, option_map, option_and_then}
use Rattle.std.specs.List.{All}
use Rattle.model.specs.declared.entry.Entry.{Entry}
use Rattle.model.specs.declared.entry.Entry.TheVariants.{Turn, Update}
use Rattle.model.specs.declared.end.Limits.{Limits}
use Rattle.model.specs.Design.{Design}
use Rattle.model.specs.States.{Action, Event, State, start}
use Rattle.model.specs.Runs.{Effect, silent, joined, IsTimely}
use Rattle.model.specs.Laws.{evaluates}
use Rattle.loose.specs.declared.transition.LooseTransition.{LooseTransition}
use Rattle.loose.specs.declared.transition.LooseTransition.TheVariants.{Process, FirstOf, Change}
use Rattle.loose.specs.Loose.{updates_class, loose_step}

-- the number of the first of some events whose action passes a test
abbrev pub first_number : (Action → Bool) → List Event → Option ℕ
first_number test events = option_map (λ e. e.0) (find (λ e. test e.1) events)

-- the entry of a change of the regions, and none of what takes an event
abbrev pub region_entry : Entry → Option Entry
region_entry (Turn number) = None
region_entry (Update number) = None
region_entry entry = Some entry

-- the entry of a loose transition in a state: the turn of the first active evaluation of its process, the first active update of its
-- class, or its change of the regions
abbrev pub entry_for : (ℕ → ℕ) → State → LooseTransition → Option Entry
entry_for class s (Process p) = option_map Turn (first_number (evaluates p) s.active)
entry_for class s (FirstOf c) = option_map Update (first_number (updates_class class c) s.active)
entry_for class s (Change entry) = region_entry entry

-- One move: what comes of a loose transition, which is the loose step of its entry.
abbrev pub move : (ℕ → ℕ) → Design → State → LooseTransition → Option Effect
move class design s transition = option_and_then (loose_step class design s) (entry_for class s transition)

-- what comes of loose transitions, after what came before them
abbrev pub moves_from : (ℕ → ℕ) → Design → Effect → List LooseTransition → Option Effect
moves_from class design e [] = Some e
moves_from class design e (transition ∷ more) =
    option_and_then (λ f. moves_from class design (joined e f) more) (move class design e.state transition)

-- what comes of loose transitions, from the start
abbrev pub moves_run : (ℕ → ℕ) → Design → List LooseTransition → Option Effect
moves_run class design transitions = moves_from class design (silent (start design)) transitions

-- a change of the regions is in time where its entry is, and a turn or an update always is
abbrev pub IsTimelyMove : Limits → LooseTransition → Type 0
IsTimelyMove limits (Process p) = Unit {0}
IsTimelyMove limits (FirstOf c) = Unit {0}
IsTimelyMove limits (Change entry) = IsTimely limits entry

-- each of these is in time
abbrev pub AreTimelyMoves : Limits → List LooseTransition → Type 0
AreTimelyMoves limits transitions = All (IsTimelyMove limits) transitions

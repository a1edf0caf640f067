-- How transitions lead on from a state before an observer, and what that is to a search.
use Rattle.std.specs.Prelude.{◌≡◌, ℕ, List, [], ◌∷◌, ◌++◌, Some}
use Rattle.model.specs.declared.entry.Entry.{Entry}
use Rattle.model.specs.declared.end.Limits.{Limits}
use Rattle.model.specs.Design.{Design}
use Rattle.model.specs.States.{State}
use Rattle.model.specs.Runs.{Effect, silent, joined, IsTimely}
use Rattle.orders.specs.Alike.{IsInOrder}
use Rattle.loose.specs.declared.transition.LooseTransition.{LooseTransition}
use Rattle.loose.specs.Loose.{loose_transition_of, loose_step}
use Rattle.loose.specs.LooseLaws.{IsOneLooseNode}
use Rattle.explore.specs.declared.Successor.{Successor}
use Rattle.explore.specs.declared.EndedPath.{EndedPath}
use Rattle.explore.specs.Search.{IsSuccessor, IsEndedPath}
use Rattle.looseruns.specs.LooseMoves.{AreTimelyMoves}
use Rattle.looseruns.specs.LooseGoing.{GoesLooselyTo}
use Rattle.looseruns.specs.ObservedJournals.{Observer, SeenEnd, seen_at, effect_with_seen}
use Rattle.looseruns.specs.ObservedMoves.{SeesAlike, observed_moves_from, PassesTimeFirst, seen_first}
use Rattle.looseruns.specs.ObservedRuns.{EndsHereObserved, StandsObserved, observed_runs_of}

-- From a state these transitions lead in time to what is one loose node with this, what is seen at them among its lines, and its events stand
-- in the order of their numbers.
pub record GoesObservedTo (class : ℕ → ℕ) (design : Design) (limits : Limits) (observe : Observer) (s : State) (transitions : List LooseTransition) (g : Effect) : Type 0 where
  -- what comes of the transitions and is seen at them
  pub effect : Effect
  pub goes : observed_moves_from class design observe (silent s) transitions ≡ Some effect
  pub timely : AreTimelyMoves limits transitions
  pub one_node : IsOneLooseNode class effect g
  pub in_order : IsInOrder g.state

-- no transition leads to the state itself, and nothing is seen
abbrev pub NoObservedMoveStays : Type 0
NoObservedMoveStays =
    (class : ℕ → ℕ) (design : Design) (limits : Limits) (observe : Observer) (s : State) → IsInOrder s
    → GoesObservedTo class design limits observe s [] (silent s)

-- an entry that steps loosely in time leads by its transition to what comes of the step, with what is seen before its lines
abbrev pub ObservedStepGoesOn : Type 0
ObservedStepGoesOn =
    (class : ℕ → ℕ) (design : Design) (limits : Limits) (observe : Observer) (s : State) (entry : Entry) (f : Effect)
    (transition : LooseTransition) → IsInOrder s → loose_step class design s entry ≡ Some f → IsTimely limits entry
    → loose_transition_of class s entry ≡ Some transition
    → GoesObservedTo class design limits observe s (transition ∷ []) (effect_with_seen (seen_at observe s entry) f)

-- Where time passes on a way at its first transition alone, or nowhere, it leads to what it leads to unobserved, with what is seen at that
-- transition before the lines.
abbrev pub LooseWayIsObserved : Type 0
LooseWayIsObserved =
    (class : ℕ → ℕ) (design : Design) (limits : Limits) (observe : Observer) (s : State) (transitions : List LooseTransition) (g : Effect)
    → PassesTimeFirst transitions → GoesLooselyTo class design limits s transitions g
    → GoesObservedTo class design limits observe s transitions (effect_with_seen (seen_first observe s transitions) g)

-- transitions lead on from where transitions have led, and what is printed and seen at them stands behind what was before
abbrev pub ObservedWaysGoOn : Type 0
ObservedWaysGoOn =
    (class : ℕ → ℕ) (design : Design) (limits : Limits) (observe : Observer) (s : State) (f g : Effect) (transitions more : List LooseTransition)
    → SeesAlike observe → IsInOrder s → GoesObservedTo class design limits observe s transitions f
    → GoesObservedTo class design limits observe f.state more g
    → GoesObservedTo class design limits observe s (transitions ++ more) (joined f g)

-- A successor whose node holds what its transitions lead to from the state that a node holds, with what is printed and seen at these, is a
-- next one.
abbrev pub ObservedMovesLeadToNext : {Node : Type 0} → (Node → Effect → Type 0) → Type 0
ObservedMovesLeadToNext {Node} Holds =
    (class : ℕ → ℕ) (design : Design) (limits : Limits) (observe : Observer) (node : Node) (run : List LooseTransition) (g : Effect)
    (next : Successor Node LooseTransition) (at : StandsObserved Holds class design limits observe node run) → SeesAlike observe
    → GoesObservedTo class design limits observe at.held.state next.moves.items g → next.printed.items ≡ g.lines
    → Holds next.node (joined at.held g) → IsSuccessor (observed_runs_of Holds class design limits observe) run next

-- A way whose transitions lead to where a run may end so, with what is printed and seen at them and what is seen there, has come to an end.
abbrev pub ObservedMovesLeadToEnd : {Node : Type 0} → (Node → Effect → Type 0) → Type 0
ObservedMovesLeadToEnd {Node} Holds =
    (class : ℕ → ℕ) (design : Design) (limits : Limits) (observe : Observer) (node : Node) (run : List LooseTransition) (g : Effect)
    (ended : EndedPath LooseTransition SeenEnd) (at : StandsObserved Holds class design limits observe node run) → SeesAlike observe
    → GoesObservedTo class design limits observe at.held.state ended.moves.items g → ended.printed.items ≡ g.lines
    → EndsHereObserved design limits observe g ended.end → IsEndedPath (observed_runs_of Holds class design limits observe) run ended

-- Where a node stands at an observed run, and some node at one that goes on from it, there stands also what these further transitions lead to,
-- line by line, from the state that the first node holds, however often time passes on them.
abbrev pub ObservedStandsAgain : {Node : Type 0} → (Node → Effect → Type 0) → Type 0
ObservedStandsAgain {Node} Holds =
    (class : ℕ → ℕ) (design : Design) (limits : Limits) (observe : Observer) (node other again : Node) (run moves : List LooseTransition)
    (g : Effect) (at : StandsObserved Holds class design limits observe node run)
    → StandsObserved Holds class design limits observe other (run ++ moves) → GoesLooselyTo class design limits at.held.state moves g
    → ((held : Effect) → held.state ≡ g.state → Holds again held) → StandsObserved Holds class design limits observe again (run ++ moves)

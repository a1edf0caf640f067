-- How transitions lead on from a state, and what that is to a search.
use Rattle.std.specs.Prelude.{◌≡◌, ℕ, List, [], ◌∷◌, ◌++◌, Some}
use Rattle.model.specs.declared.entry.Entry.{Entry}
use Rattle.model.specs.declared.end.Limits.{Limits}
use Rattle.model.specs.declared.end.End.{End}
use Rattle.model.specs.Design.{Design}
use Rattle.model.specs.States.{State}
use Rattle.model.specs.Runs.{Effect, silent, joined, IsTimely}
use Rattle.model.specs.Texts.{EndsHere}
use Rattle.orders.specs.Alike.{IsInOrder}
use Rattle.loose.specs.declared.transition.LooseTransition.{LooseTransition}
use Rattle.loose.specs.Loose.{loose_transition_of, loose_step}
use Rattle.loose.specs.LooseLaws.{IsOneLooseNode}
use Rattle.explore.specs.declared.Successor.{Successor}
use Rattle.explore.specs.declared.EndedPath.{EndedPath}
use Rattle.explore.specs.Search.{IsSuccessor, IsEndedPath}
use Rattle.looseruns.specs.LooseMoves.{moves_from, AreTimelyMoves}
use Rattle.looseruns.specs.LooseRuns.{StandsLoosely, loose_runs_of}

-- From a state these transitions lead in time to what is one loose node with this, whose events stand in the order of their numbers.
pub record GoesLooselyTo (class : ℕ → ℕ) (design : Design) (limits : Limits) (s : State) (transitions : List LooseTransition) (g : Effect) : Type 0 where
  -- what comes of the transitions
  pub effect : Effect
  pub goes : moves_from class design (silent s) transitions ≡ Some effect
  pub timely : AreTimelyMoves limits transitions
  pub one_node : IsOneLooseNode class effect g
  pub in_order : IsInOrder g.state

-- no transition leads to the state itself
abbrev pub NoMoveStays : Type 0
NoMoveStays =
    (class : ℕ → ℕ) (design : Design) (limits : Limits) (s : State) → IsInOrder s → GoesLooselyTo class design limits s [] (silent s)

-- an entry that steps loosely in time leads by its transition to what comes of the step
abbrev pub LooseStepGoesOn : Type 0
LooseStepGoesOn =
    (class : ℕ → ℕ) (design : Design) (limits : Limits) (s : State) (entry : Entry) (f : Effect) (transition : LooseTransition) → IsInOrder s
    → loose_step class design s entry ≡ Some f → IsTimely limits entry → loose_transition_of class s entry ≡ Some transition
    → GoesLooselyTo class design limits s (transition ∷ []) f

-- transitions lead on from where transitions have led, and what they print stands behind what those printed
abbrev pub LooseWaysGoOn : Type 0
LooseWaysGoOn =
    (class : ℕ → ℕ) (design : Design) (limits : Limits) (s : State) (f g : Effect) (transitions more : List LooseTransition) → IsInOrder s
    → GoesLooselyTo class design limits s transitions f → GoesLooselyTo class design limits f.state more g
    → GoesLooselyTo class design limits s (transitions ++ more) (joined f g)

-- a successor whose node holds what its transitions lead to from the state that a node holds, with the lines that these print, is a next one
abbrev pub MovesLeadToNext : {Node : Type 0} → (Node → Effect → Type 0) → Type 0
MovesLeadToNext {Node} Holds =
    (class : ℕ → ℕ) (design : Design) (limits : Limits) (node : Node) (run : List LooseTransition) (g : Effect)
    (next : Successor Node LooseTransition) (at : StandsLoosely Holds class design limits node run)
    → GoesLooselyTo class design limits at.held.state next.moves.items g → next.printed.items ≡ g.lines
    → Holds next.node (joined at.held g) → IsSuccessor (loose_runs_of Holds class design limits) run next

-- a way whose transitions lead to where a run may end so, with the lines that they print, has come to an end
abbrev pub MovesLeadToEnd : {Node : Type 0} → (Node → Effect → Type 0) → Type 0
MovesLeadToEnd {Node} Holds =
    (class : ℕ → ℕ) (design : Design) (limits : Limits) (node : Node) (run : List LooseTransition) (g : Effect)
    (ended : EndedPath LooseTransition End) (at : StandsLoosely Holds class design limits node run)
    → GoesLooselyTo class design limits at.held.state ended.moves.items g → ended.printed.items ≡ g.lines
    → EndsHere design limits g ended.end → IsEndedPath (loose_runs_of Holds class design limits) run ended

-- What is told of each way from a node before an observer.
use Rattle.std.specs.Prelude.{◌≡◌, ◌≢◌, ℕ, List, [], ◌∷◌, ◌++◌}
use Rattle.std.specs.List.{All}
use Rattle.model.specs.declared.end.Why.TheVariants.{Finish}
use Rattle.model.specs.declared.end.End.{End}
use Rattle.model.specs.declared.end.End.TheVariants.{Stopped}
use Rattle.model.specs.States.{State}
use Rattle.loose.specs.declared.transition.LooseTransition.{LooseTransition}
use Rattle.explore.specs.declared.Successor.{Successor}
use Rattle.explore.specs.declared.EndedPath.{EndedPath}
use Rattle.looseruns.specs.ObservedJournals.{Observer, SeenEnd}
use Rattle.looseruns.specs.ObservedMoves.{StaysInTime, PassesTimeFirst, seen_first}
use Rattle.lawful.specs.declared.node.LooseNode.{LooseNode}

-- two lists have as many elements, and those at one place are so to each other
abbrev pub AreEach : {X Y : Type 0} → (X → Y → Type 0) → List X → List Y → Type 0
AreEach R [] [] = Unit {0}
AreEach R [] (y ∷ ys) = ⊥
AreEach R (x ∷ xs) [] = ⊥
AreEach R (x ∷ xs) (y ∷ ys) = R x y × AreEach R xs ys

-- This is told of a way with these lines from a state of which this is seen: before the lines what is seen at its first transition.
abbrev pub IsToldOn : List ℕ → List LooseTransition → List ℕ → List ℕ → Type 0
IsToldOn seen moves printed told = (observe : Observer) (s : State) → seen ≡ observe s → told ≡ seen_first observe s moves ++ printed

-- A successor of a state of which this is seen was observed: the same node by the same way, on which time passes at its first transition alone,
-- or nowhere, and what is seen there is told before the lines.
pub record IsNextSeen (seen : List ℕ) (next observed : Successor LooseNode LooseTransition) : Type 0 where
  pub node_is : observed.node ≡ next.node
  pub moves_are : observed.moves.items ≡ next.moves.items
  pub first : PassesTimeFirst next.moves.items
  pub told : IsToldOn seen next.moves.items next.printed.items observed.printed.items

-- A way to an end from a state of which this is seen was observed: the same way, on which no time passes, to the same end. Nothing is seen where
-- the run has finished, and of other ends, to which no transition leads, what is seen of the state.
pub record IsEndSeen (seen : List ℕ) (ended : EndedPath LooseTransition End) (observed : EndedPath LooseTransition SeenEnd) : Type 0 where
  pub moves_are : observed.moves.items ≡ ended.moves.items
  pub printed_is : observed.printed.items ≡ ended.printed.items
  pub stay : All StaysInTime ended.moves.items
  pub end_is : observed.end.end ≡ ended.end
  pub finished : ended.end ≡ Stopped Finish → observed.end.seen ≡ []
  pub here : ended.end ≢ Stopped Finish → (ended.moves.items ≡ []) × (observed.end.seen ≡ seen)

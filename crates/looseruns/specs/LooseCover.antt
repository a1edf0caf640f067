-- When ways from a loose run cover whatever may come after it.
use Rattle.std.specs.Prelude.{◌≡◌, ℕ, ◌<◌, List, [], ◌∷◌, ◌++◌, length, map, Some}
use Rattle.std.specs.List.{Any, Contains}
use Rattle.model.specs.declared.entry.Entry.{Entry}
use Rattle.model.specs.declared.end.Limits.{Limits}
use Rattle.model.specs.declared.end.End.{End}
use Rattle.model.specs.Design.{Design}
use Rattle.model.specs.States.{State}
use Rattle.model.specs.Runs.{Effect, silent, IsTimely}
use Rattle.model.specs.Texts.{EndsHere}
use Rattle.orders.specs.Alike.{IsInOrder}
use Rattle.loose.specs.declared.transition.LooseTransition.{LooseTransition}
use Rattle.loose.specs.Loose.{AlikeIn, loose_transition_of, loose_step}
use Rattle.loose.specs.LooseLaws.{IsOneLooseNode}
use Rattle.explore.specs.declared.Successor.{Successor}
use Rattle.explore.specs.declared.EndedPath.{EndedPath}
use Rattle.explore.specs.Search.{IsCovered}
use Rattle.looseruns.specs.LooseMoves.{move, moves_from, IsTimelyMove, AreTimelyMoves}
use Rattle.looseruns.specs.LooseRuns.{ComesOfMoves, MayEndLoosely, ComeToOneLooseNode, StandsLoosely, loose_runs_of}

-- Whatever transitions lead on from a loose run to an end, a first part of them, one at least, comes to one loose node with one of these
-- ways.
abbrev pub CoverLooseRuns : (ℕ → ℕ) → Design → Limits → List LooseTransition → List (List LooseTransition) → Type 0
CoverLooseRuns class design limits run ways =
    (transition : LooseTransition) (more : List LooseTransition) (end : End)
    → MayEndLoosely class design limits (run ++ transition ∷ more) end
    → (part : List LooseTransition) × (rest : List LooseTransition) × (0 < length part) × (part ++ rest ≡ transition ∷ more)
    × Any (λ way. ComeToOneLooseNode class design limits (run ++ part) (run ++ way)) ways

-- whatever transition may be taken in time from a state is a way by itself
abbrev pub FollowMoves : (ℕ → ℕ) → Design → Limits → State → List (List LooseTransition) → Type 0
FollowMoves class design limits s ways =
    (transition : LooseTransition) (f : Effect) → move class design s transition ≡ Some f → IsTimelyMove limits transition
    → Contains ways (transition ∷ [])

-- whatever entry steps loosely in time from a state, its transition is a way by itself
abbrev pub FollowLooseEntries : (ℕ → ℕ) → Design → Limits → State → List (List LooseTransition) → Type 0
FollowLooseEntries class design limits s ways =
    (entry : Entry) (f : Effect) → loose_step class design s entry ≡ Some f → IsTimely limits entry
    → (transition : LooseTransition) × (loose_transition_of class s entry ≡ Some transition) × Contains ways (transition ∷ [])

-- ways cover the loose runs from one where each transition from there is followed
abbrev pub FollowedMovesCover : Type 0
FollowedMovesCover =
    (class : ℕ → ℕ) (design : Design) (limits : Limits) (run : List LooseTransition) (e : Effect) (ways : List (List LooseTransition))
    → ComesOfMoves class design limits run e → FollowMoves class design limits e.state ways → CoverLooseRuns class design limits run ways

-- from a state these transitions lead to one loose node with that way, which is in time
abbrev pub LeadToOneLooseNode : (ℕ → ℕ) → Design → Limits → State → List LooseTransition → List LooseTransition → Type 0
LeadToOneLooseNode class design limits s transitions way =
    (e : Effect) × (f : Effect) × (moves_from class design (silent s) transitions ≡ Some e) × (moves_from class design (silent s) way ≡ Some f)
    × AreTimelyMoves limits way × IsOneLooseNode class e f

-- Whatever transitions lead on in time from a state to where a run may end, a first part of them, one at least, leads to one loose node
-- with one of these ways.
abbrev pub CoverMoves : (ℕ → ℕ) → Design → Limits → State → List (List LooseTransition) → Type 0
CoverMoves class design limits s ways =
    (transition : LooseTransition) (more : List LooseTransition) (g : Effect) (end : End)
    → moves_from class design (silent s) (transition ∷ more) ≡ Some g → AreTimelyMoves limits (transition ∷ more)
    → EndsHere design limits g end
    → (part : List LooseTransition) × (rest : List LooseTransition) × (0 < length part) × (part ++ rest ≡ transition ∷ more)
    × Any (λ way. LeadToOneLooseNode class design limits s part way) ways

-- ways cover the loose runs from one where they cover what leads on from a state that is alike in classes to where it leads
abbrev pub CoveringMovesCover : Type 0
CoveringMovesCover =
    (class : ℕ → ℕ) (design : Design) (limits : Limits) (run : List LooseTransition) (e : Effect) (s : State)
    (ways : List (List LooseTransition)) → ComesOfMoves class design limits run e → IsInOrder s → AlikeIn class e.state s
    → CoverMoves class design limits s ways → CoverLooseRuns class design limits run ways

-- the ways to these successors
abbrev pub loose_ways_to : {Node : Type 0} → List (Successor Node LooseTransition) → List (List LooseTransition)
loose_ways_to successors = map (λ next. next.moves.items) successors

-- each end that a run may have here is among these, with nothing printed on the way to it
abbrev pub TellsLooseEnds : Design → Limits → List (EndedPath LooseTransition End) → Effect → Type 0
TellsLooseEnds design limits ended e =
    (end : End) → EndsHere design limits e end → Any (λ way. (way.printed.items ≡ []) × (way.end ≡ end)) ended

-- A loose run at which a node stands is covered where the ways to successors cover what comes after it, and the ends that a run may have
-- where the node holds it are told.
abbrev pub CoveringLooseIsCovered : {Node : Type 0} → (Node → Effect → Type 0) → Type 0
CoveringLooseIsCovered {Node} Holds =
    (class : ℕ → ℕ) (design : Design) (limits : Limits) (successors : List (Successor Node LooseTransition))
    (ended : List (EndedPath LooseTransition End)) (node : Node) (run : List LooseTransition)
    (at : StandsLoosely Holds class design limits node run) → CoverLooseRuns class design limits run (loose_ways_to successors)
    → TellsLooseEnds design limits ended at.held → IsCovered (loose_runs_of Holds class design limits) successors ended run

-- It is covered, too, where each entry that steps loosely from the state that the node holds has the transition of a successor.
abbrev pub FollowingLooseIsCovered : {Node : Type 0} → (Node → Effect → Type 0) → Type 0
FollowingLooseIsCovered {Node} Holds =
    (class : ℕ → ℕ) (design : Design) (limits : Limits) (successors : List (Successor Node LooseTransition))
    (ended : List (EndedPath LooseTransition End)) (node : Node) (run : List LooseTransition)
    (at : StandsLoosely Holds class design limits node run)
    → FollowLooseEntries class design limits at.held.state (loose_ways_to successors) → TellsLooseEnds design limits ended at.held
    → IsCovered (loose_runs_of Holds class design limits) successors ended run

-- When ways from an observed loose run cover whatever may come after it.
use Rattle.std.specs.Prelude.{◌≡◌, ℕ, ◌<◌, List, [], ◌∷◌, ◌++◌, length, Some}
use Rattle.std.specs.List.{All, Any}
use Rattle.model.specs.declared.entry.Entry.TheVariants.{Advance}
use Rattle.model.specs.declared.end.Limits.{Limits}
use Rattle.model.specs.Design.{Design}
use Rattle.model.specs.States.{State}
use Rattle.model.specs.Runs.{Effect}
use Rattle.orders.specs.Alike.{IsInOrder}
use Rattle.loose.specs.declared.transition.LooseTransition.{LooseTransition}
use Rattle.loose.specs.declared.transition.LooseTransition.TheVariants.{Change}
use Rattle.loose.specs.Loose.{AlikeIn}
use Rattle.explore.specs.declared.Successor.{Successor}
use Rattle.explore.specs.declared.EndedPath.{EndedPath}
use Rattle.explore.specs.Search.{IsCovered}
use Rattle.looseruns.specs.LooseMoves.{move}
use Rattle.looseruns.specs.LooseCover.{FollowMoves, FollowLooseEntries, CoverMoves, loose_ways_to}
use Rattle.looseruns.specs.ObservedJournals.{Observer, SeenEnd}
use Rattle.looseruns.specs.ObservedMoves.{SeesAlike, PassesTimeFirst}
use Rattle.looseruns.specs.ObservedRuns.{ComesObserved, MayEndObserved, ComeToOneObservedNode, EndsHereObserved, StandsObserved, observed_runs_of}

-- Whatever transitions lead on from an observed loose run to an end, a first part of them, one at least, comes to one loose node of one
-- observed text with one of these ways.
abbrev pub CoverObservedRuns : (ℕ → ℕ) → Design → Limits → Observer → List LooseTransition → List (List LooseTransition) → Type 0
CoverObservedRuns class design limits observe run ways =
    (transition : LooseTransition) (more : List LooseTransition) (end : SeenEnd)
    → MayEndObserved class design limits observe (run ++ transition ∷ more) end
    → (part : List LooseTransition) × (rest : List LooseTransition) × (0 < length part) × (part ++ rest ≡ transition ∷ more)
    × Any (λ way. ComeToOneObservedNode class design limits observe (run ++ part) (run ++ way)) ways

-- where time may pass in a state, nothing else may happen
abbrev pub TimePassesAlone : Type 0
TimePassesAlone =
    (class : ℕ → ℕ) (design : Design) (s : State) (time : ℕ) (transition : LooseTransition) (f g : Effect)
    → move class design s (Change (Advance time)) ≡ Some f → move class design s transition ≡ Some g → transition ≡ Change (Advance time)

-- ways cover the observed loose runs from one where each transition from there is followed
abbrev pub FollowedMovesCoverObserved : Type 0
FollowedMovesCoverObserved =
    (class : ℕ → ℕ) (design : Design) (limits : Limits) (observe : Observer) (run : List LooseTransition) (e : Effect)
    (ways : List (List LooseTransition)) → ComesObserved class design limits observe run e
    → FollowMoves class design limits e.state ways → CoverObservedRuns class design limits observe run ways

-- Ways cover the observed loose runs from one where they cover what leads on, line by line, from a state that is alike in classes to where it
-- leads, and on each of them time passes at its first transition alone, or nowhere.
abbrev pub CoveringMovesCoverObserved : Type 0
CoveringMovesCoverObserved =
    (class : ℕ → ℕ) (design : Design) (limits : Limits) (observe : Observer) (run : List LooseTransition) (e : Effect) (s : State)
    (ways : List (List LooseTransition)) → SeesAlike observe → ComesObserved class design limits observe run e → IsInOrder s
    → AlikeIn class e.state s → CoverMoves class design limits s ways → All PassesTimeFirst ways
    → CoverObservedRuns class design limits observe run ways

-- each end that a run may have here is among these, with what is seen here, and with nothing printed on the way to it
abbrev pub TellsObservedEnds : Design → Limits → Observer → List (EndedPath LooseTransition SeenEnd) → Effect → Type 0
TellsObservedEnds design limits observe ended e =
    (end : SeenEnd) → EndsHereObserved design limits observe e end → Any (λ way. (way.printed.items ≡ []) × (way.end ≡ end)) ended

-- An observed loose run at which a node stands is covered where the ways to successors cover what comes after it, and the ends that a run may
-- have where the node holds it are told.
abbrev pub CoveringObservedIsCovered : {Node : Type 0} → (Node → Effect → Type 0) → Type 0
CoveringObservedIsCovered {Node} Holds =
    (class : ℕ → ℕ) (design : Design) (limits : Limits) (observe : Observer) (successors : List (Successor Node LooseTransition))
    (ended : List (EndedPath LooseTransition SeenEnd)) (node : Node) (run : List LooseTransition)
    (at : StandsObserved Holds class design limits observe node run) → SeesAlike observe
    → CoverObservedRuns class design limits observe run (loose_ways_to successors) → TellsObservedEnds design limits observe ended at.held
    → IsCovered (observed_runs_of Holds class design limits observe) successors ended run

-- It is covered, too, where each entry that steps loosely from the state that the node holds has the transition of a successor.
abbrev pub FollowingObservedIsCovered : {Node : Type 0} → (Node → Effect → Type 0) → Type 0
FollowingObservedIsCovered {Node} Holds =
    (class : ℕ → ℕ) (design : Design) (limits : Limits) (observe : Observer) (successors : List (Successor Node LooseTransition))
    (ended : List (EndedPath LooseTransition SeenEnd)) (node : Node) (run : List LooseTransition)
    (at : StandsObserved Holds class design limits observe node run) → SeesAlike observe
    → FollowLooseEntries class design limits at.held.state (loose_ways_to successors)
    → TellsObservedEnds design limits observe ended at.held → IsCovered (observed_runs_of Holds class design limits observe) successors ended run

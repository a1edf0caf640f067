-- Ways from an observed loose run to where the run has finished.
use Rattle.std.specs.Prelude.{◌≡◌, ◌≢◌, ◌⊎◌, ℕ, ◌<◌, true, List, [], ◌∷◌, ◌++◌, length, Some}
use Rattle.std.specs.List.{All, Any, Contains}
use Rattle.model.specs.declared.end.Limits.{Limits}
use Rattle.model.specs.declared.end.Why.TheVariants.{Finish}
use Rattle.model.specs.declared.end.End.{End}
use Rattle.model.specs.declared.end.End.TheVariants.{Stopped}
use Rattle.model.specs.Design.{Design}
use Rattle.model.specs.States.{State}
use Rattle.model.specs.Runs.{Effect, silent}
use Rattle.model.specs.Texts.{EndsHere}
use Rattle.loose.specs.declared.transition.LooseTransition.{LooseTransition}
use Rattle.explore.specs.declared.Successor.{Successor}
use Rattle.explore.specs.declared.EndedPath.{EndedPath}
use Rattle.explore.specs.Search.{IsCovered}
use Rattle.looseruns.specs.LooseMoves.{moves_from, AreTimelyMoves}
use Rattle.looseruns.specs.LooseCover.{LeadToOneLooseNode, loose_ways_to}
use Rattle.looseruns.specs.ObservedJournals.{Observer, SeenEnd}
use Rattle.looseruns.specs.ObservedMoves.{SeesAlike, PassesTimeFirst}
use Rattle.looseruns.specs.ObservedRuns.{StandsObserved, observed_runs_of}
use Rattle.looseruns.specs.ObservedCover.{TellsObservedEnds}

-- an observer sees the same of all states in which a run has finished
abbrev pub SeesOneFinish : Observer → Type 0
SeesOneFinish observe = (s t : State) → s.finished ≡ true → t.finished ≡ true → observe s ≡ observe t

-- a way leads from a state to where the run has finished, in time, and prints the same as these lines
abbrev pub LeadsToFinish : (ℕ → ℕ) → Design → Limits → State → List ℕ → List LooseTransition → Type 0
LeadsToFinish class design limits s lines way =
    (f : Effect) × (moves_from class design (silent s) way ≡ Some f) × AreTimelyMoves limits way × (f.state.finished ≡ true) × (f.lines ≡ lines)

-- Whatever transitions lead on in time from a state to where a run may end, either a first part of them, one at least, leads to one loose
-- node with one of these ways; or the run is finished there at the time of that state, and one of the other ways leads to such an end with the
-- same lines.
abbrev pub CoverToFinish : (ℕ → ℕ) → Design → Limits → State → List (List LooseTransition) → List (List LooseTransition) → Type 0
CoverToFinish class design limits s ways ends =
    (transition : LooseTransition) (more : List LooseTransition) (g : Effect) (end : End)
    → moves_from class design (silent s) (transition ∷ more) ≡ Some g → AreTimelyMoves limits (transition ∷ more)
    → EndsHere design limits g end
    → ((part : List LooseTransition) × (rest : List LooseTransition) × (0 < length part) × (part ++ rest ≡ transition ∷ more)
    × Any (λ way. LeadToOneLooseNode class design limits s part way) ways)
    ⊎ ((end ≡ Stopped Finish) × (g.state.time ≡ s.time) × Any (λ way. LeadsToFinish class design limits s g.lines way) ends)

-- what each of these ways prints from a state, up to where the run has finished, is told of an end of a search, and what is seen there
abbrev pub TellsWaysToFinish : (ℕ → ℕ) → Design → Observer → State → List (List LooseTransition) → List (EndedPath LooseTransition SeenEnd) → Type 0
TellsWaysToFinish class design observe s ends ended =
    (way : List LooseTransition) (f : Effect) → Contains ends way → moves_from class design (silent s) way ≡ Some f
    → Any (λ path. (path.printed.items ≡ f.lines) × (path.end ≡ record { end = Stopped Finish; seen = observe f.state })) ended

-- An observed loose run at which a node stands is covered where these ways cover what comes after the state that the node holds, the ways on are
-- those to successors, on each of which time passes at its first transition alone, or nowhere, and the ways to ends are told, as are the ends that
-- a run may have where the node holds it. Where there are ways to ends, the observer sees the same of all finished states.
abbrev pub CoveringToFinishIsCovered : {Node : Type 0} → (Node → Effect → Type 0) → Type 0
CoveringToFinishIsCovered {Node} Holds =
    (class : ℕ → ℕ) (design : Design) (limits : Limits) (observe : Observer) (successors : List (Successor Node LooseTransition))
    (ended : List (EndedPath LooseTransition SeenEnd)) (node : Node) (run : List LooseTransition) (ends : List (List LooseTransition))
    (at : StandsObserved Holds class design limits observe node run) → SeesAlike observe → (ends ≢ [] → SeesOneFinish observe)
    → CoverToFinish class design limits at.held.state (loose_ways_to successors) ends → All PassesTimeFirst (loose_ways_to successors)
    → TellsWaysToFinish class design observe at.held.state ends ended → TellsObservedEnds design limits observe ended at.held
    → IsCovered (observed_runs_of Holds class design limits observe) successors ended run

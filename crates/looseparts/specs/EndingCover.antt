-- Ways by parts in a search: what they cover is covered there, where the ways to ends are told.
use Rattle.std.specs.Prelude.{◌≡◌, ℕ, List, Some}
use Rattle.std.specs.List.{Any, Contains}
use Rattle.model.specs.declared.end.Limits.{Limits}
use Rattle.model.specs.declared.end.Why.TheVariants.{Finish}
use Rattle.model.specs.declared.end.End.{End}
use Rattle.model.specs.declared.end.End.TheVariants.{Stopped}
use Rattle.model.specs.Design.{Design}
use Rattle.model.specs.States.{State}
use Rattle.model.specs.Runs.{Effect, silent}
use Rattle.loose.specs.declared.transition.LooseTransition.{LooseTransition}
use Rattle.explore.specs.declared.Successor.{Successor}
use Rattle.explore.specs.declared.EndedPath.{EndedPath}
use Rattle.explore.specs.Search.{IsCovered}
use Rattle.looseruns.specs.LooseMoves.{moves_from}
use Rattle.looseruns.specs.LooseRuns.{StandsLoosely, loose_runs_of}
use Rattle.looseruns.specs.LooseCover.{loose_ways_to, TellsLooseEnds}
use Rattle.looseruns.specs.ObservedEnding.{CoverToFinish}

-- what each of these ways prints from a state, up to where the run has finished, is told of an end of a search
abbrev pub TellsWaysToEnds : (ℕ → ℕ) → Design → State → List (List LooseTransition) → List (EndedPath LooseTransition End) → Type 0
TellsWaysToEnds class design s ends ended =
    (way : List LooseTransition) (f : Effect) → Contains ends way → moves_from class design (silent s) way ≡ Some f
    → Any (λ path. (path.printed.items ≡ f.lines) × (path.end ≡ Stopped Finish)) ended

-- A loose run at which a node stands is covered where these ways cover what comes after the state that the node holds, the ways on are those
-- to successors, and the ways to ends are told, as are the ends that a run may have where the node holds it.
abbrev pub CoveringToEndsIsCovered : {Node : Type 0} → (Node → Effect → Type 0) → Type 0
CoveringToEndsIsCovered {Node} Holds =
    (class : ℕ → ℕ) (design : Design) (limits : Limits) (successors : List (Successor Node LooseTransition))
    (ended : List (EndedPath LooseTransition End)) (node : Node) (run : List LooseTransition) (ends : List (List LooseTransition))
    (at : StandsLoosely Holds class design limits node run)
    → CoverToFinish class design limits at.held.state (loose_ways_to successors) ends
    → TellsWaysToEnds class design at.held.state ends ended → TellsLooseEnds design limits ended at.held
    → IsCovered (loose_runs_of Holds class design limits) successors ended run

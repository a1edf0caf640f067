-- What comes of following the ways from a node of a search before an observer.
use Rattle.std.specs.Prelude.{◌≡◌, ℕ, List, [], true, IsTrue}
use Rattle.std.specs.List.{All}
use Rattle.model.specs.declared.end.Limits.{Limits}
use Rattle.model.specs.States.{State}
use Rattle.model.specs.Runs.{Effect, silent}
use Rattle.design.specs.Compiled.{Compiled, design_of}
use Rattle.loose.specs.declared.transition.LooseTransition.{LooseTransition}
use Rattle.explore.specs.declared.Successor.{Successor}
use Rattle.explore.specs.declared.EndedPath.{EndedPath}
use Rattle.explore.specs.declared.Expanded.{Expanded}
use Rattle.explore.specs.SearchedRuns.{Runs}
use Rattle.looseruns.specs.LooseCover.{loose_ways_to}
use Rattle.looseruns.specs.ObservedJournals.{Observer, SeenEnd}
use Rattle.looseruns.specs.ObservedMoves.{PassesTimeFirst}
use Rattle.looseruns.specs.ObservedRuns.{EndsHereObserved, observed_runs_of}
use Rattle.looseruns.specs.ObservedGoing.{GoesObservedTo}
use Rattle.looseruns.specs.ObservedCover.{TellsObservedEnds}
use Rattle.looseruns.specs.ObservedEnding.{CoverToFinish, TellsWaysToFinish}
use Rattle.lawful.specs.LooseNodes.{HoldsEffect}
use Rattle.lawful.specs.declared.node.LooseNode.{LooseNode}

-- an observer sees nothing of a state in which the run has finished
abbrev pub SeesNoFinish : Observer → Type 0
SeesNoFinish observe = (s : State) → s.finished ≡ true → observe s ≡ []

-- the loose runs of a design that an observer sees, at which nodes stand
abbrev pub searched_observed : Compiled → (ℕ → ℕ) → Limits → Observer → Runs LooseTransition LooseNode SeenEnd
searched_observed code class limits observe = observed_runs_of (HoldsEffect code) class (design_of code) limits observe

-- A successor of a state before an observer: its transitions lead on in time from there, what is printed and seen at them is told, and its
-- node holds what they lead to.
pub record IsObservedWayOn (class : ℕ → ℕ) (code : Compiled) (limits : Limits) (observe : Observer) (s : State) (next : Successor LooseNode LooseTransition) : Type 0 where
  pub effect : Effect
  pub goes : GoesObservedTo class (design_of code) limits observe s next.moves.items effect
  pub printed : next.printed.items ≡ effect.lines
  pub holds : HoldsEffect code next.node effect

-- A way from a state to an end before an observer: its transitions lead on in time from there, what is printed and seen at them is told, and a
-- run may end so behind them, with this seen of its last state.
pub record IsObservedWayToEnd (class : ℕ → ℕ) (code : Compiled) (limits : Limits) (observe : Observer) (s : State) (ended : EndedPath LooseTransition SeenEnd) : Type 0 where
  pub effect : Effect
  pub goes : GoesObservedTo class (design_of code) limits observe s ended.moves.items effect
  pub printed : ended.printed.items ≡ effect.lines
  pub here : EndsHereObserved (design_of code) limits observe effect ended.end

-- Nothing is left out: the ways to successors, on each of which time passes at its first transition alone, or nowhere, and others to where the
-- run has finished, cover whatever leads on from the state; what these others print is told, with what is seen there, and each end that a run may
-- have here is told, with what is seen here.
pub record AreAllObservedWays (class : ℕ → ℕ) (code : Compiled) (limits : Limits) (observe : Observer) (s : State) (successors : List (Successor LooseNode LooseTransition)) (ended : List (EndedPath LooseTransition SeenEnd)) : Type 0 where
  -- the ways to where the run has finished
  pub ends : List (List LooseTransition)
  pub cover : CoverToFinish class (design_of code) limits s (loose_ways_to successors) ends
  pub firsts : All PassesTimeFirst (loose_ways_to successors)
  pub ways_told : TellsWaysToFinish class (design_of code) observe s ends ended
  pub told : TellsObservedEnds (design_of code) limits observe ended (silent s)

-- What comes of following the ways from a state before an observer: each successor and each end is a way from it, and where the answer is whole,
-- nothing is left out.
pub record IsObservedAt (class : ℕ → ℕ) (code : Compiled) (limits : Limits) (observe : Observer) (s : State) (expanded : Expanded LooseNode LooseTransition SeenEnd) : Type 0 where
  pub nexts : All (IsObservedWayOn class code limits observe s) expanded.successors.items
  pub ends : All (IsObservedWayToEnd class code limits observe s) expanded.ended.items
  pub all : IsTrue expanded.whole → AreAllObservedWays class code limits observe s expanded.successors.items expanded.ended.items

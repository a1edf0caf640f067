-- What a search is told of the ways from a node.
use Rattle.std.specs.Prelude.{List, IsTrue}
use Rattle.std.specs.List.{All}
use Rattle.explore.specs.declared.Expanded.{Expanded}
use Rattle.explore.specs.SearchedRuns.{Runs}
use Rattle.explore.specs.Search.{IsSuccessor, IsEndedPath, IsCovered}
use Rattle.loose.specs.declared.transition.LooseTransition.{LooseTransition}
use Rattle.lawful.specs.declared.node.LooseNode.{LooseNode}

-- These are ways from a node that stands at a run: each successor and each end is one of that run, and where nothing is left out they cover it.
pub record AreWaysFrom {End : Type 0} (runs : Runs LooseTransition LooseNode End) (run : List LooseTransition) (expanded : Expanded LooseNode LooseTransition End) : Type 0 where
  pub next : All (IsSuccessor runs run) expanded.successors.items
  pub sound : All (IsEndedPath runs run) expanded.ended.items
  pub cover : IsTrue expanded.whole → IsCovered runs expanded.successors.items expanded.ended.items run

use Rattle.std.proofs.Common.{◌≤◌, ◌*◌, length}
use Rattle.std.specs.List.{All}
use Rattle.explore.specs.Lineage.{ways}
use Rattle.explore.specs.Placed.{IsPlaced}
use Rattle.explore.proofs.again.place_all.Given as goal

abbrev pub invariant-loop-left : goal.invariant-loop-left
invariant-loop-left g l =
    record {
      checkpoints : All (IsPlaced (g.O.Orders.runs l.scope.orders.now) (ways l.lineage)) l.checkpoints.nodes.items;
      within : l.left * 2 ≤ length l.passed.items;
    }

abbrev pub decreases-loop-left : goal.decreases-loop-left
decreases-loop-left g l = l.left

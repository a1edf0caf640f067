use Rattle.std.proofs.Common.{◌≡◌, ◌++◌, [], List, length, get_or}
use Rattle.std.specs.List.{All}
use Rattle.explore.specs.declared.EndedPath.{EndedPath}
use Rattle.explore.specs.Search.{AreShownFurther, IsEndedPath, IsShown}
use Rattle.explore.specs.Lineage.{ways}
use Rattle.explore.proofs.show.show_all.Given as goal

abbrev pub invariant-loop-one : goal.invariant-loop-one
invariant-loop-one g l =
    let runs = g.O.Orders.runs l.scope.orders.now in
    let way = get_or (ways l.run.lineage.now) l.run.reached.number [] in
    record {
      further : AreShownFurther runs l.scope.bounds.shown l.fn.shown.items l.shown.items;
      left : All (IsEndedPath runs way) l.left.items;
      done : (did : List (EndedPath g.row.O-Move.Denot g.row.O-End.Denot)) × (l.fn.ended.items ≡ l.left.items ++ did)
          × All (λ one. IsShown l.shown.items (runs.text way ++ one.printed.items) one.end) did;
    }

abbrev pub decreases-loop-one : goal.decreases-loop-one
decreases-loop-one g l = length l.left.items

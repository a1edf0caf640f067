use Rattle.std.proofs.Common.{◌≡◌, ◌++◌, [], List, length, get_or, false, IsTrue}
use Rattle.std.specs.List.{All}
use Rattle.explore.specs.declared.Successor.{Successor}
use Rattle.explore.specs.SearchKept.{AreKeptWell, Grows, LeadsOn, StayUnmarked}
use Rattle.explore.specs.Search.{IsSuccessor}
use Rattle.explore.specs.Lineage.{ways}
use Rattle.explore.proofs.kept.follow_all.Given as goal

abbrev pub invariant-loop-next : goal.invariant-loop-next
invariant-loop-next g l =
    let runs = g.O.Orders.runs l.scope.orders.now in
    let way = get_or (ways l.fn.kept.lineage) l.from.number [] in
    record {
      well : AreKeptWell runs (g.O.Orders.has_key l.scope.orders.now) (g.O.Orders.time_of l.scope.orders.now) l.scope.bounds.nodes l.kept;
      grows : Grows l.fn.kept l.kept;
      unmarked : StayUnmarked l.fn.kept l.kept;
      full : l.all ≡ false → length (ways l.kept.lineage) ≡ l.scope.bounds.nodes;
      left : All (IsSuccessor runs way) l.left.items;
      done : (did : List (Successor g.row.O-Node.Denot g.row.O-Move.Denot)) × (l.fn.successors.items ≡ l.left.items ++ did)
          × (IsTrue l.all → All (λ next. LeadsOn runs l.kept l.from.number (way ++ next.moves.items)) did);
    }

abbrev pub decreases-loop-next : goal.decreases-loop-next
decreases-loop-next g l = length l.left.items

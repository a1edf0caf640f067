-- Where memory is refused to the first node, nothing is shown.
use Rattle.std.proofs.Common.{arith}
use Rattle.explore.proofs.Counting.{none_counted, searched_failed}
use Rattle.explore.proofs.Shows.{none_shown}
use Rattle.explore.proofs.search.search_all.Goals as goal

pub returns-in_err-begin : goal.returns-in_err-begin
returns-in_err-begin g c =
    let orders = c.args.scope.orders.now in
    let runs = g.O.Orders.runs orders in
    searched_failed runs (g.O.Orders.time_of orders) c.args.scope.bounds c.args.shown.now.items c.args.nodes.now c.from_residual.result _ c.from_residual.ensures.1 (omega (arith, c.requires.begun))
    (none_shown runs c.args.scope.bounds.shown c.args.shown.now.items c.requires.none) (none_counted runs c.args.shown.now.items c.args.nodes.now c.requires.begun)

-- The node stands where some node stood.
use Rattle.std.proofs.Common.{◌∙◌, [], sym}
use Rattle.explore.specs.Lineage.{ways}
use Rattle.explore.proofs.Places.{again_stands, ok_map}
use Rattle.explore.proofs.again.make_whole.Goals as goal

pub returns : goal.returns
returns g c =
    ok_map _ _ c.again.result
    (λ node made. again_stands (g.O.Orders.runs c.args.scope.orders.now) (ways c.args.lineage.now) c.args.number [] c.deref.result.now c.in_ok-start.start node
    c.requires.within c.requires.stood (sym c.in_ok-moves.ensures ∙ sym c.deref.ensures.value) c.in_ok-start.ensures made) c.again.ensures

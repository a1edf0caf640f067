-- The node of a run, kept or made again.
use Rattle.explore.specs.Lineage.{ways}
use Rattle.explore.specs.Placed.{IsPlaced}
use Rattle.explore.proofs.Places.{All-front, ok_always, taken_stands}
use Rattle.explore.proofs.again.node_at.Goals as goal

pub returns-in-Some-clause-placed : goal.returns-in-Some-clause-placed
returns-in-Some-clause-placed g c =
    let P = IsPlaced (g.O.Orders.runs c.args.scope.orders.now) (ways c.args.lineage.now) in
    record { newest = All-front P c.take.new.self.nodes.items c.args.nodes.now.newest.nodes.items c.take.ensures.rest c.requires.placed.newest; checkpoints = c.requires.placed.checkpoints }

pub returns-in-Some-clause-node : goal.returns-in-Some-clause-node
returns-in-Some-clause-node g c =
    taken_stands (g.O.Orders.runs c.args.scope.orders.now) (ways c.args.lineage.now) c.args.nodes.now.newest.nodes.items c.args.number c.in-Some.node c.requires.placed.newest c.in-Some.ensures.node

pub place_all-requires-clause-checkpoints : goal.place_all-requires-clause-checkpoints
place_all-requires-clause-checkpoints g c =
    let P = IsPlaced (g.O.Orders.runs c.args.scope.orders.now) (ways c.args.lineage.now) in
    All-front P c.drop_astray.new.checkpoints.nodes.items c.args.nodes.now.checkpoints.nodes.items c.drop_astray.ensures c.requires.placed.checkpoints

pub returns-clause-placed : goal.returns-clause-placed
returns-clause-placed g c =
    let runs = g.O.Orders.runs c.args.scope.orders.now in
    let P = IsPlaced runs (ways c.args.lineage.now) in
    ok_always c.make.result _ (record { newest = All-front P c.take.new.self.nodes.items c.args.nodes.now.newest.nodes.items c.take.ensures.rest c.requires.placed.newest; checkpoints = c.in_ok-place_all.ensures })

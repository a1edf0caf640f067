-- A checkpoint more at each turn.
use Rattle.std.proofs.Common.{◌++◌, ◌∷◌, [], arith, rules}
use Rattle.std.proofs.lemmas.List.Elements.{All-push}
use Rattle.explore.specs.Lineage.{ways}
use Rattle.explore.specs.Placed.{IsPlaced}
use Rattle.explore.specs.declared.recent.Placed.{Placed}
use Rattle.explore.proofs.Places.{All-last}
use Rattle.explore.proofs.again.place_all.Goals as goal

pub make-requires-clause-reached : goal.make-requires-clause-reached
make-requires-clause-reached g c = record { whole = c.requires.reached.whole; within = search rules; stood = c.requires.reached.stood }

pub loop-left-preserved : goal.loop-left-preserved
loop-left-preserved g c =
    let P = IsPlaced (g.O.Orders.runs c.args.scope.orders.now) (ways c.args.lineage.now) in
    let number = c.index-number.result.now in
    let placed : Placed g.row.O-Node.Denot = record { number = number; node = c.in_ok-node.node; weight = c.weight-weight.result } in
    record {
      checkpoints = All-last P c.push.new.self.nodes.items (c.loop-left.checkpoints.nodes.items ++ placed ∷ []) c.in_ok-push.ensures
          (All-push P c.loop-left.checkpoints.nodes.items placed c.loop-left.invariant.checkpoints (record { within = search rules; stands = c.in_ok-node.ensures }));
      within = omega arith;
    }

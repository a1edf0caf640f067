-- The first node is kept.
use Rattle.std.proofs.Common.{[], get_or, length, ap, arith, subst, sym, List}
use Rattle.explore.specs.Lineage.{ways}
use Rattle.explore.specs.declared.recent.Placed.{Placed}
use Rattle.explore.proofs.Places.{placed_push}
use Rattle.explore.proofs.kept.begin.Goals as goal

pub returns : goal.returns
returns g c =
    let runs = g.O.Orders.runs c.args.scope.orders.now in
    let begun = c.in_ok-reach_first.ensures in
    let good = begun.good in
    let new = c.reach_first.new.kept in
    let reached = ways new.lineage in
    let node = c.in_ok-node.node in
    let p : Placed g.row.O-Node.Denot = record { number = 0; node = node; weight = c.weight-weight.result } in
    let stands = subst (λ (l : List (List g.row.O-Move.Denot)). runs.Stands node (get_or l 0 [])) (sym begun.run) c.in_ok-node.ensures in
    record {
      good = record {
        lineage = good.lineage;
        told = good.told;
        whole = good.whole;
        count = good.count;
        visited = good.visited;
        pending = good.pending;
        placed = record {
          newest = placed_push runs reached new.nodes.newest.nodes.items c.push.new.self.nodes.items p good.placed.newest c.in_ok-push.ensures (omega (arith, ap length begun.run)) stands;
          checkpoints = good.placed.checkpoints;
        };
      };
      run = begun.run;
      waits = begun.waits;
      unmarked = begun.unmarked;
      timed = begun.timed;
    }

-- Where a run was added, its node is kept.
use Rattle.std.proofs.Common.{◌<◌, ℕ, [], get_or, length, subst, sym}
use Rattle.explore.specs.Lineage.{ways}
use Rattle.explore.specs.declared.recent.Placed.{Placed}
use Rattle.explore.proofs.Places.{placed_push}
use Rattle.explore.proofs.kept.follow.Goals as goal

pub returns-clause-further : goal.returns-clause-further
returns-clause-further g c =
    let runs = g.O.Orders.runs c.args.scope.orders.now in
    let further = c.in_ok-there.ensures.further in
    let good = further.well.good in
    let grows = further.grows in
    let new = c.reach.new.kept in
    let old = ways c.args.kept.now.lineage in
    let number = c.len-number.result in
    let node = c.args.next.node in
    let p : Placed g.row.O-Node.Denot = record { number = number; node = node; weight = c.weight-weight.result } in
    let more : number < length (ways new.lineage) = subst (λ (n : ℕ). number < n) c.len-count.ensures c.if-number-count.false in
    let stands = subst (λ (n : ℕ). runs.Stands node (get_or (ways new.lineage) n [])) (sym c.len-number.ensures) (c.in_ok-there.ensures.stands (subst (λ (n : ℕ). n < length (ways new.lineage)) c.len-number.ensures more)) in
    record {
      well = record {
        good = record {
          lineage = good.lineage;
          told = good.told;
          whole = good.whole;
          count = good.count;
          visited = good.visited;
          pending = good.pending;
          placed = record {
            newest = placed_push runs (ways new.lineage) new.nodes.newest.nodes.items c.push.new.self.nodes.items p good.placed.newest c.in_ok-push.ensures more stands;
            checkpoints = good.placed.checkpoints;
          };
        };
        timed = further.well.timed;
        room = further.well.room;
      };
      grows = record { lineage = grows.lineage; steps = grows.steps; edges = grows.edges; texts = grows.texts; pending = grows.pending; count = grows.count; waits = grows.waits };
      unmarked = further.unmarked;
    }

pub reach-requires-clause-good : goal.reach-requires-clause-good
reach-requires-clause-good g c = c.requires.good

pub reach-requires-clause-from : goal.reach-requires-clause-from
reach-requires-clause-from g c = c.requires.from

pub reach-requires-clause-next : goal.reach-requires-clause-next
reach-requires-clause-next g c = c.requires.next

pub returns-then-number-count-clause-further : goal.returns-then-number-count-clause-further
returns-then-number-count-clause-further g c = c.in_ok-there.ensures.further

pub returns-then-number-count-clause-full : goal.returns-then-number-count-clause-full
returns-then-number-count-clause-full g c = c.in_ok-there.ensures.full

pub returns-then-number-count-clause-leads : goal.returns-then-number-count-clause-leads
returns-then-number-count-clause-leads g c = c.in_ok-there.ensures.leads

pub returns-clause-full : goal.returns-clause-full
returns-clause-full g c = c.in_ok-there.ensures.full

pub returns-clause-leads : goal.returns-clause-leads
returns-clause-leads g c is_there = let at = c.in_ok-there.ensures.leads is_there in record { to = at.to; within = at.within; linked = at.linked; serves = at.serves }

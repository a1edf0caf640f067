-- One more ticket of the worker's own deque.
use Rattle.std.proofs.Common.{◌+◌, arith, length}
use Rattle.workers.proofs.Batching.{fills_more}
use Rattle.workers.proofs.Hands.{keeps_next}
use Rattle.workers.proofs.worker.RunContext.fill.Goals as goal

pub loop-place-preserved : goal.loop-place-preserved
loop-place-preserved g c =
    let i = c.loop-place.invariant in
    let f = i.fills in
    let most = f.1 in
    let few = i.few in
    let one = c.extend-next.ensures.few in record {
      room = c.extend-next.ensures.room;
      few = omega (arith, few, one);
      fills = (
        f.0 + 1,
        omega (arith, most),
        fills_more c.args.worker.now c.loop-place.worker c.extend-next.new.worker 0 1 f.0 1 (length c.loop-place.batch.tickets.items) 0 (length c.extend-next.new.batch.tickets.items) 0 f.2 c.extend-next.ensures.fills,
      );
      keeps = keeps_next g.K.Naming.named c.loop-place.next c.extend-next.result c.args.worker.now c.loop-place.worker c.extend-next.new.worker _ c.loop-place.batch.tickets.items _ c.in-More.is i.keeps
          c.extend-next.ensures.keeps;
      leads = c.extend-next.ensures.leads;
    }

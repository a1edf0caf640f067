-- One line more.
use Rattle.std.proofs.Common.{◌++◌, ◌<◌, length, map, rules}
use Rattle.explain.specs.ExplainedEnd.{region_lines}
use Rattle.explain.proofs.Pieces.{region_step}
use Rattle.explain.proofs.ending.push_queue.Goals as goal

pub loop-i-preserved : goal.loop-i-preserved
loop-i-preserved g c =
    let lt : c.loop-i.i < length c.args.events.now.items = search rules in
    region_step c.args.names.now c.args.region.now g.E.Queued.event c.args.events.now.items c.loop-i.i c.index.result.now
    (c.args.text.now.items ++ region_lines c.args.names.now c.args.region.now (map g.E.Queued.event c.args.events.now.items)) c.loop-i.text.items
    c.extend_from_slice.new.self.items c.push.new.text.items c.extend_from_slice-in-loop-i.new.self.items c.as_bytes.result.now
    lt c.index.ensures c.as_bytes.ensures.value c.in_ok-extend_from_slice.ensures.items c.in_ok-push.ensures c.in_ok-extend_from_slice-2.ensures.items c.loop-i.invariant

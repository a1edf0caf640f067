-- One line more.
use Rattle.std.proofs.Common.{◌++◌, ◌<◌, length, map, rules}
use Rattle.regions.specs.Future.{due_event}
use Rattle.explain.specs.ExplainedEnd.{future_lines}
use Rattle.explain.proofs.Pieces.{future_step}
use Rattle.explain.proofs.ending.push_future.Goals as goal

pub loop-i-preserved : goal.loop-i-preserved
loop-i-preserved g c =
    let lt : c.loop-i.i < length c.args.events.now.items = search rules in
    future_step c.args.names.now (due_event g.E.Queued.event) c.args.events.now.items c.loop-i.i c.index.result.now
    (c.args.text.now.items ++ future_lines c.args.names.now (map (due_event g.E.Queued.event) c.args.events.now.items)) c.loop-i.text.items c.push_due.new.text.items
    lt c.index.ensures c.in_ok-push_due.ensures c.loop-i.invariant

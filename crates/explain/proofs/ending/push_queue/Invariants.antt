-- What is still to be put are the lines of the events that are left.
use Rattle.std.proofs.Common.{◌≡◌, ◌++◌, drop, map}
use Rattle.explain.specs.ExplainedEnd.{region_lines}
use Rattle.explain.proofs.ending.push_queue.Given as goal

abbrev pub invariant-loop-i : goal.invariant-loop-i
invariant-loop-i g l =
    l.text.items ++ region_lines l.names l.region (map g.E.Queued.event (drop l.i l.events.items)) ≡ l.fn.text.items ++ region_lines l.names l.region (map g.E.Queued.event l.events.items)

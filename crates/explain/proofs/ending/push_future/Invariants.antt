-- What is still to be put are the lines of the events that are left.
use Rattle.std.proofs.Common.{◌≡◌, ◌++◌, drop, map}
use Rattle.regions.specs.Future.{due_event}
use Rattle.explain.specs.ExplainedEnd.{future_lines}
use Rattle.explain.proofs.ending.push_future.Given as goal

abbrev pub invariant-loop-i : goal.invariant-loop-i
invariant-loop-i g l =
    l.text.items ++ future_lines l.names (map (due_event g.E.Queued.event) (drop l.i l.events.items))
    ≡ l.fn.text.items ++ future_lines l.names (map (due_event g.E.Queued.event) l.events.items)

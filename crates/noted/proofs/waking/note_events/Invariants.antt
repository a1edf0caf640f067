-- The first events are noted.
use Rattle.std.proofs.Common.{◌≡◌, ◌++◌, take}
use Rattle.noted.proofs.waking.note_events.Given as goal

abbrev pub invariant-loop-event : goal.invariant-loop-event
invariant-loop-event l = l.list ≡ l.fn.list ++ take l.event-index l.events

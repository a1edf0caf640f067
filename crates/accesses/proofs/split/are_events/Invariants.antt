-- None of those that were looked at is a change of the regions.
use Rattle.std.proofs.Common.{ℕ, ◌<◌, get_or}
use Rattle.model.specs.declared.entry.Entry.{Entry}
use Rattle.accesses.specs.Roles.{IsEvent}
use Rattle.accesses.proofs.split.are_events.Given as goal

abbrev pub invariant-loop-entry : goal.invariant-loop-entry
invariant-loop-entry l = (k : ℕ) (d : Entry) → k < l.entry-index → IsEvent (get_or l.entries k d)

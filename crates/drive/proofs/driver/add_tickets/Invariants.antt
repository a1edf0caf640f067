use Rattle.std.proofs.Common.{◌≡◌, ◌++◌, length}
use Rattle.std.specs.Vec.Iter.{into_iter_items, into_iter_len}
use Rattle.drive.proofs.driver.add_tickets.Given as goal

abbrev pub invariant-loop-ticket : goal.invariant-loop-ticket
invariant-loop-ticket g l = record {
  left : l.yielded ++ into_iter_items l.ticket-iterator ≡ into_iter_items l.initial.ticket-iterator;
  count : into_iter_len l.ticket-iterator ≡ length (into_iter_items l.ticket-iterator);
  tickets : l.tickets.items ≡ l.initial.tickets.items ++ l.yielded;
}

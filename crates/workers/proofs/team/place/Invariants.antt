use Rattle.std.proofs.Common.{◌≡◌, ◌<◌, length}
use Rattle.std.specs.Vec.Iter.{into_iter_items}
use Rattle.workers.specs.WorkerInvariant.{IsFixed}
use Rattle.workers.proofs.Placing.{Gets}
use Rattle.workers.proofs.team.place.Given as goal

abbrev pub invariant-loop-ticket : goal.invariant-loop-ticket
invariant-loop-ticket g l =
    (length l.owners.items ≡ l.workers) × (l.next < l.workers) × IsFixed l.fn.owners.items l.owners.items
    × (length l.fn.owners.items ≡ l.workers) × Gets l.workers l.next l.fn.owners.items l.owners.items l.fn.tickets.items (into_iter_items l.ticket-iterator)

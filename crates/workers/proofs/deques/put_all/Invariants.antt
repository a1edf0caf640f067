use Rattle.std.proofs.Common.{◌≡◌, ◌++◌}
use Rattle.std.specs.Vec.Iter.{drain_items}
use Rattle.workers.specs.WorkerInvariant.{Goes, OnlyPuts}
use Rattle.workers.proofs.deques.put_all.Given as goal

abbrev pub invariant-loop-ticket : goal.invariant-loop-ticket
invariant-loop-ticket g l = record {
  goes : Goes 0 0 l.fn.seat l.seat;
  kept : l.seat ≡ l.fn.seat;
  puts : OnlyPuts l.fn.owner l.owner;
  all : l.owner.put ++ drain_items l.ticket-iterator ≡ l.fn.owner.put ++ l.fn.tickets.items;
}

use Rattle.std.proofs.Common.{◌≡◌}
use Rattle.workers.specs.Keeping.{GotNone}
use Rattle.workers.specs.WorkerInvariant.{SameEnds, got_by_ends}
use Rattle.workers.proofs.deques.take_soon.Given as goal

abbrev pub invariant-loop : goal.invariant-loop
invariant-loop g l = record {
  ends : SameEnds l.fn.owner l.fn.row.items l.owner l.row.items;
  count : got_by_ends l.owner l.row.items ≡ got_by_ends l.fn.owner l.fn.row.items;
  none : GotNone l.fn.owner l.fn.row.items l.owner l.row.items;
  put : l.owner.put ≡ l.fn.owner.put;
}

use Rattle.std.proofs.Common.{◌≡◌, ◌++◌}
use Rattle.std.specs.Vec.{vec_capacity}
use Rattle.std.specs.Vec.Iter.{drain_items, drain_capacity}
use Rattle.workers.specs.WorkerInvariant.{Goes, OnlyPuts, granted_by}
use Rattle.workers.proofs.worker.RunContext.put_granted.Given as goal

abbrev pub invariant-loop-grant : goal.invariant-loop-grant
invariant-loop-grant g l = record {
  goes : Goes 0 0 l.fn.seat l.seat;
  kept : l.seat ≡ l.fn.seat;
  puts : OnlyPuts l.fn.owner l.owner;
  all : l.owner.put ++ granted_by (drain_items l.grant-iterator) ≡ l.fn.owner.put ++ granted_by l.fn.grants.items;
  room : drain_capacity l.grant-iterator ≡ vec_capacity l.fn.grants;
}

use Rattle.std.proofs.Common.{◌≡◌, ◌+◌, ◌≤◌, ◌++◌}
use Rattle.std.specs.List.{All}
use Rattle.std.specs.VecDeque.{deque_len}
use Rattle.workers.specs.Batching.{HasBatchRoom, most_turns}
use Rattle.workers.specs.WorkerInvariant.{Goes, OnlyPuts, IsSettled, tickets_of}
use Rattle.workers.proofs.worker.RunContext.settle_all.Given as goal

-- the answers that were taken are settled
abbrev pub invariant-loop-place : goal.invariant-loop-place
invariant-loop-place g l = record {
  room : HasBatchRoom l.batch;
  tickets : l.batch.tickets ≡ l.fn.batch.tickets;
  logs : l.batch.logs ≡ l.fn.batch.logs;
  goes : Goes 0 0 l.fn.seat l.seat;
  kept : l.seat ≡ l.fn.seat;
  puts : OnlyPuts l.fn.owner l.owner;
  all : l.owner.put ++ tickets_of l.batch.replies.items ≡ l.fn.owner.put ++ tickets_of l.fn.batch.replies.items;
  few : l.place + deque_len l.batch.replies ≤ most_turns;
  settled : All IsSettled l.batch.replies.items → All IsSettled l.fn.batch.replies.items;
}

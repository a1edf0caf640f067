use Rattle.std.proofs.Common.{ℕ, [], ◌∷◌, ◌+◌, ◌≤◌, length}
use Rattle.workers.specs.Batching.{HasBatchRoom, Leads, KeepsOn, Fills}
use Rattle.workers.proofs.worker.RunContext.fill.Given as goal

abbrev pub invariant-loop-place : goal.invariant-loop-place
invariant-loop-place g l = record {
  room : HasBatchRoom l.batch;
  few : length l.batch.tickets.items ≤ l._place;
  fills : (taken : ℕ) × (taken + 1 ≤ l._place) × Fills l.fn.worker l.worker 0 1 taken (length l.batch.tickets.items) 0;
  keeps : KeepsOn g.K.Naming.named l.next l.fn.worker (l.fn.ticket ∷ []) l.worker l.batch.tickets.items;
  leads : Leads g.K.Naming.named l.next l.batch l.worker;
}

use Rattle.std.proofs.Common.{◌≡◌, length}
use Rattle.commitgate.specs.Batches.{AreOffered}
use Rattle.tests_concurrent.proofs.batches.evaluated.Given as goal

abbrev pub invariant-loop-ticket : goal.invariant-loop-ticket
invariant-loop-ticket g l = record {
  pairs : length l.batch.tickets.items ≡ length l.batch.logs.items;
  offered : AreOffered g.K.Naming.named.code l.seat.fresh l.batch.tickets.items l.batch.logs.items;
}

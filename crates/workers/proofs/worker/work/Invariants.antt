use Rattle.std.proofs.Common.{[]}
use Rattle.workers.specs.WorkerInvariant.{Works}
use Rattle.workers.specs.Keeping.{KeepsAll, ExtendsWorker}
use Rattle.workers.specs.Batching.{HasWorkerRoom}
use Rattle.workers.proofs.worker.work.Given as goal

abbrev pub invariant-loop : goal.invariant-loop
invariant-loop g l = record {
  works : Works l.initial.worker l.worker;
  later : ExtendsWorker l.initial.worker l.worker;
  keeps : KeepsAll g.K.Naming.named l.initial.worker [] l.worker [];
  room : HasWorkerRoom l.room;
}

use Rattle.loosejournals.proofs.Together.{AreTogetherBefore}
use Rattle.loosejournals.proofs.classes.join_processes.Given as goal

-- what each process so far assigns is together
abbrev pub invariant-loop-process : goal.invariant-loop-process
invariant-loop-process l = AreTogetherBefore l.process-items l.classes l.process-index

-- The run went on.
use Rattle.conflicts.specs.RunEndings.{HasGoneOn}
use Rattle.conflicts.proofs.recorder.record_all.Given as goal

abbrev pub invariant-loop-entry : goal.invariant-loop-entry
invariant-loop-entry l = HasGoneOn l.fn.run l.run

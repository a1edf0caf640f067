-- The run went on.
use Rattle.conflicts.specs.RunEndings.{HasGoneOn}
use Rattle.conflicts.proofs.recorder.record_along.Given as goal

abbrev pub invariant-loop : goal.invariant-loop
invariant-loop g l = HasGoneOn l.fn.run l.run

-- The run went on.
use Rattle.conflicts.specs.RunEndings.{HasGoneOn}
use Rattle.causes.proofs.hybrid.take_all_along.Given as goal

abbrev pub invariant-loop-entry : goal.invariant-loop-entry
invariant-loop-entry l = HasGoneOn l.fn.run l.run

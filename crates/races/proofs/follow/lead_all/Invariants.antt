-- The run went on.
use Rattle.conflicts.specs.RunEndings.{HasGoneOn}
use Rattle.races.proofs.follow.lead_all.Given as goal

abbrev pub invariant-loop-place : goal.invariant-loop-place
invariant-loop-place l = HasGoneOn l.fn.run l.run

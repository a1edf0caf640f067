-- The run went on.
use Rattle.conflicts.specs.RunEndings.{HasGoneOn}
use Rattle.races.proofs.follow.follow_segment.Given as goal

abbrev pub invariant-loop : goal.invariant-loop
invariant-loop l = HasGoneOn l.fn.run l.run

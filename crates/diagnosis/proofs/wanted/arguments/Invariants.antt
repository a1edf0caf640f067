-- Each turn passes a token.
use Rattle.std.proofs.Common.{length}
use Rattle.diagnosis.proofs.wanted.arguments.Given as goal

abbrev pub decreases-loop-left : goal.decreases-loop-left
decreases-loop-left l = length l.left

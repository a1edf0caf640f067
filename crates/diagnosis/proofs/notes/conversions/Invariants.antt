-- Each turn passes a byte or a conversion.
use Rattle.std.proofs.Common.{length}
use Rattle.diagnosis.proofs.notes.conversions.Given as goal

abbrev pub decreases-loop-left : goal.decreases-loop-left
decreases-loop-left l = length l.left

-- How many settings are left.
use Rattle.std.proofs.Common.{length}
use Rattle.whole_designs.proofs.timescales.timescales_of.Given as goal

abbrev pub decreases-loop-left : goal.decreases-loop-left
decreases-loop-left l = length l.left

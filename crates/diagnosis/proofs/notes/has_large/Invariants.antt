-- What is found from here on is what is found in all.
use Rattle.std.proofs.Common.{◌≡◌, length, false}
use Rattle.diagnosis.specs.LackedWords.{has_large}
use Rattle.diagnosis.proofs.notes.has_large.Given as goal

abbrev pub invariant-loop-left : goal.invariant-loop-left
invariant-loop-left l = has_large false l.number ≡ has_large l.based l.left

abbrev pub decreases-loop-left : goal.decreases-loop-left
decreases-loop-left l = length l.left

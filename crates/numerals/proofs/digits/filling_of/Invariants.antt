-- What is found from here on, with what was found before, is what is found in all.
use Rattle.std.proofs.Common.{◌≡◌, length}
use Rattle.logic4.specs.declared.digit.Digit.TheVariants.{Zero}
use Rattle.tokens.specs.Literals as spec
use Rattle.numerals.proofs.digits.filling_of.Given as goal

abbrev pub invariant-loop-left : goal.invariant-loop-left
invariant-loop-left l = spec.filling_from Zero l.found ≡ spec.filling_from l.fill l.left

abbrev pub decreases-loop-left : goal.decreases-loop-left
decreases-loop-left l = length l.left

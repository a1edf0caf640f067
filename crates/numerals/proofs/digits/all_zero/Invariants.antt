-- What is found from here on, with what was found before, is what is found in all.
use Rattle.std.proofs.Common.{◌≡◌, length}
use Rattle.tokens.specs.Literals as spec
use Rattle.numerals.proofs.digits.all_zero.Given as goal

abbrev pub invariant-loop-left : goal.invariant-loop-left
invariant-loop-left l = spec.all_zero l.digits ≡ spec.all_zero l.left

abbrev pub decreases-loop-left : goal.decreases-loop-left
decreases-loop-left l = length l.left

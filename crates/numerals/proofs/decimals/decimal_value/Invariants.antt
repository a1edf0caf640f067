-- What is read from here on, with what was read before, is what is read in all.
use Rattle.std.proofs.Common.{◌≡◌, length}
use Rattle.numerals.specs.Numbers.{decimal_value, decimal_from}
use Rattle.numerals.proofs.decimals.decimal_value.Given as goal

abbrev pub invariant-loop-left : goal.invariant-loop-left
invariant-loop-left l = decimal_value l.text ≡ decimal_from l.found l.left

abbrev pub decreases-loop-left : goal.decreases-loop-left
decreases-loop-left l = length l.left

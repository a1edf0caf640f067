-- What is found from here on, with what was found before, is what is found in all.
use Rattle.std.proofs.Common.{◌≡◌, length, []}
use Rattle.tokens.specs.Literals.{all_digits}
use Rattle.numerals.specs.Numbers.{digits_of_byte}
use Rattle.numerals.proofs.digits.digits_of.Given as goal

abbrev pub invariant-loop-left : goal.invariant-loop-left
invariant-loop-left l = all_digits (digits_of_byte l.bits) l.text [] ≡ all_digits (digits_of_byte l.bits) l.left l.found.items

abbrev pub decreases-loop-left : goal.decreases-loop-left
decreases-loop-left l = length l.left

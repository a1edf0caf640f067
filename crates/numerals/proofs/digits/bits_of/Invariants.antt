use Rattle.std.proofs.Common.{◌≡◌, ◌++◌, drop}
use Rattle.numerals.proofs.digits.bits_of.Given as goal

abbrev pub invariant-loop-digit : goal.invariant-loop-digit
invariant-loop-digit l = l.bits ++ drop l.digit-index l.digit-items ≡ l.digits

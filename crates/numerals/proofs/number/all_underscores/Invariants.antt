-- What is found from here on, with what was found before, is what is found in all.
use Rattle.std.proofs.Common.{◌≡◌, length}
use Rattle.numerals.specs.Bytes.{all_underscores}
use Rattle.numerals.proofs.number.all_underscores.Given as goal

abbrev pub invariant-loop-left : goal.invariant-loop-left
invariant-loop-left l = all_underscores l.text ≡ all_underscores l.left

abbrev pub decreases-loop-left : goal.decreases-loop-left
decreases-loop-left l = length l.left

-- What is found from here on, with what was found before, is what is found in all.
use Rattle.std.proofs.Common.{◌≡◌, length}
use Rattle.lexemes.specs.ByteClasses.{all_bytes, is_in_class}
use Rattle.lexemes.proofs.spans.all_bytes.Given as goal

abbrev pub invariant-loop-left : goal.invariant-loop-left
invariant-loop-left l = all_bytes (is_in_class l.class) l.text ≡ all_bytes (is_in_class l.class) l.left

abbrev pub decreases-loop-left : goal.decreases-loop-left
decreases-loop-left l = length l.left

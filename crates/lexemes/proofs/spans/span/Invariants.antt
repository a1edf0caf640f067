-- The count so far and that of what is left are the whole.
use Rattle.std.proofs.Common.{◌≡◌, ◌+◌, length}
use Rattle.lexemes.specs.ByteClasses.{run_length, is_in_class}
use Rattle.lexemes.proofs.spans.span.Given as goal

abbrev pub invariant-loop-left : goal.invariant-loop-left
invariant-loop-left l = record {
  value : run_length (is_in_class l.class) l.text ≡ l.n + run_length (is_in_class l.class) l.left;
  within : l.n + length l.left ≡ length l.text;
}

abbrev pub decreases-loop-left : goal.decreases-loop-left
decreases-loop-left l = length l.left

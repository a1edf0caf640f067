-- The count so far and that of what is left are the whole.
use Rattle.std.proofs.Common.{◌≡◌, ◌+◌, length}
use Rattle.tokens.specs.ByteClasses.{span, is_in}
use Rattle.tokens.proofs.spans.span.Given as goal

abbrev pub invariant-loop-left : goal.invariant-loop-left
invariant-loop-left l = record {
  value : span (is_in l.class) l.text ≡ l.n + span (is_in l.class) l.left;
  within : l.n + length l.left ≡ length l.text;
}

abbrev pub decreases-loop-left : goal.decreases-loop-left
decreases-loop-left l = length l.left

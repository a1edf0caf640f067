-- What is found from here on, with what was found before, is what is found in all.
use Rattle.std.proofs.Common.{◌≡◌, ◌+◌, length, false}
use Rattle.lexemes.specs.Lengths as spec
use Rattle.lexemes.proofs.pieces.block_comment_length.Given as goal

abbrev pub invariant-loop-left : goal.invariant-loop-left
invariant-loop-left l = record {
  value : spec.block_comment_length 0 false l.text ≡ spec.block_comment_length l.n l.star l.left;
  within : l.n + length l.left ≡ length l.text;
}

abbrev pub decreases-loop-left : goal.decreases-loop-left
decreases-loop-left l = length l.left

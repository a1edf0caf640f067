-- The count so far and that of what is left are the whole.
use Rattle.std.proofs.Common.{◌≡◌, ◌+◌, ◌≤◌, length}
use Rattle.source_texts.specs.Lines.{newlines_in}
use Rattle.source_texts.proofs.places.newlines.Given as goal

abbrev pub invariant-loop-left : goal.invariant-loop-left
invariant-loop-left l = record {
  value : newlines_in l.text ≡ l.count + newlines_in l.left;
  within : l.count + length l.left ≤ length l.text;
}

abbrev pub decreases-loop-left : goal.decreases-loop-left
decreases-loop-left l = length l.left

-- The count so far and that of what is left are the whole.
use Rattle.std.proofs.Common.{◌≡◌, ◌+◌, ◌≤◌, length}
use Rattle.locations.specs.TextLines.{newlines}
use Rattle.locations.proofs.lines.newlines.Given as goal

abbrev pub invariant-loop-left : goal.invariant-loop-left
invariant-loop-left l = record {
  value : newlines l.text ≡ l.n + newlines l.left;
  within : l.n + length l.left ≤ length l.text;
}

abbrev pub decreases-loop-left : goal.decreases-loop-left
decreases-loop-left l = length l.left

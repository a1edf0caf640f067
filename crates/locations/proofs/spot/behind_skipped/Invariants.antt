-- What stands behind spaces and comments of what is left stands behind spaces and comments of the text.
use Rattle.std.proofs.Common.{◌≡◌, ℕ, ◌≤◌, List, length}
use Rattle.locations.specs.Spots.{skip_len, Skips}
use Rattle.locations.proofs.spot.behind_skipped.Given as goal

abbrev pub invariant-loop-len : goal.invariant-loop-len
invariant-loop-len l = record {
  skips : (r : List ℕ) → Skips l.left r → Skips l.text r;
  len : l.len ≡ skip_len l.left;
  fits : l.len ≤ length l.left;
  within : length l.left ≤ length l.text;
}

abbrev pub decreases-loop-len : goal.decreases-loop-len
decreases-loop-len l = length l.left

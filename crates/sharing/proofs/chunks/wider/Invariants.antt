-- The table stays as long as it was made.
use Rattle.std.proofs.Common.{◌≡◌, length}
use Rattle.sharing.proofs.chunks.wider.Given as goal

abbrev pub invariant-loop-slot : goal.invariant-loop-slot
invariant-loop-slot l = length l.wider.items ≡ l.count

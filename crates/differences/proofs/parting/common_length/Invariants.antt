-- The entries that were looked at are the same.
use Rattle.std.proofs.Common.{◌≡◌, take}
use Rattle.differences.proofs.parting.common_length.Given as goal

abbrev pub invariant-loop-place : goal.invariant-loop-place
invariant-loop-place l = take l.place l.first ≡ take l.place l.second

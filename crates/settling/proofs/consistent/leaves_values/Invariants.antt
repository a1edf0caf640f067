-- The writes that were looked at leave their registers.
use Rattle.std.proofs.Common.{ℕ, ◌<◌}
use Rattle.settling.proofs.Leaving.{LeavesAt}
use Rattle.settling.proofs.consistent.leaves_values.Given as goal

abbrev pub invariant-loop-place : goal.invariant-loop-place
invariant-loop-place l = (k : ℕ) → k < l.place → LeavesAt l.store l.writes k

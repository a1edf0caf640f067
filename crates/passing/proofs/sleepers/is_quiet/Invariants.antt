-- None of the moves that were looked at is one for which it waits.
use Rattle.std.proofs.Common.{ℕ, ◌<◌, get_or}
use Rattle.certificates.specs.declared.changes.NotedChange.{NotedChange}
use Rattle.passing.proofs.Deaf.{IsQuietAt}
use Rattle.passing.proofs.sleepers.is_quiet.Given as goal

abbrev pub invariant-loop-place : goal.invariant-loop-place
invariant-loop-place l = (k : ℕ) (d : NotedChange) → k < l.place → IsQuietAt l.control (get_or l.list k d)

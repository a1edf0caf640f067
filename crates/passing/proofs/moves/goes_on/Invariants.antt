-- Those that were looked at lead through.
use Rattle.std.proofs.Common.{ℕ, ◌<◌, get_or}
use Rattle.certificates.specs.declared.changes.NotedChange.{NotedChange}
use Rattle.passing.specs.Moves.{LeadsThrough}
use Rattle.passing.proofs.moves.goes_on.Given as goal

abbrev pub invariant-loop-place : goal.invariant-loop-place
invariant-loop-place l = (k : ℕ) (d : NotedChange) → k < l.place → LeadsThrough l.list l.one (get_or l.list k d)

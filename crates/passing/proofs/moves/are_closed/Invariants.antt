-- Those that were looked at are led through.
use Rattle.std.proofs.Common.{ℕ, ◌<◌, get_or}
use Rattle.std.specs.List.{All}
use Rattle.certificates.specs.declared.changes.NotedChange.{NotedChange}
use Rattle.passing.specs.Moves.{LeadsThrough}
use Rattle.passing.proofs.moves.are_closed.Given as goal

abbrev pub invariant-loop-place : goal.invariant-loop-place
invariant-loop-place l = (k : ℕ) (d : NotedChange) → k < l.place → All (LeadsThrough l.list (get_or l.list k d)) l.list

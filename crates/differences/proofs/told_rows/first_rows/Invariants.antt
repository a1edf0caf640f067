-- What is still to be kept are the first times of the registers of which none is kept.
use Rattle.std.proofs.Common.{◌≡◌, ◌++◌, drop}
use Rattle.differences.specs.ToldRows.{first_rows}
use Rattle.differences.proofs.FirstRows.{beside}
use Rattle.differences.proofs.told_rows.first_rows.Given as goal

abbrev pub invariant-loop-place : goal.invariant-loop-place
invariant-loop-place l = l.kept.items ++ beside l.kept.items (first_rows (drop l.place l.rows)) ≡ first_rows l.rows

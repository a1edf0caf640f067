-- What is still to be put are the lines of the registers that are left.
use Rattle.std.proofs.Common.{◌≡◌, ◌++◌, drop}
use Rattle.differences.specs.ComparedLines.{row_lines}
use Rattle.differences.proofs.lines.push_rows.Given as goal

abbrev pub invariant-loop-place : goal.invariant-loop-place
invariant-loop-place l =
    l.text.items ++ row_lines l.names (drop l.place l.rows) ≡ l.fn.text.items ++ row_lines l.names l.rows

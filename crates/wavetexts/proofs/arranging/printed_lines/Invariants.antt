-- The lines that were counted and those that are left make all.
use Rattle.std.proofs.Common.{◌≡◌, ◌+◌, ◌≤◌, length}
use Rattle.wavetexts.specs.AtTimes.{lines_of, printed_among, printed_lines}
use Rattle.wavetexts.proofs.arranging.printed_lines.Given as goal

abbrev pub invariant-loop-line : goal.invariant-loop-line
invariant-loop-line l = record {
  counted : l.count + printed_among l.fn.registers l.left (lines_of l.rest) ≡ printed_lines l.fn.registers l.fn.text;
  bound : l.count + length l.rest ≤ length l.fn.text;
}

abbrev pub decreases-loop-line : goal.decreases-loop-line
decreases-loop-line l = length l.rest

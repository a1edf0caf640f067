-- What is found from here on is what is found in all.
use Rattle.std.proofs.Common.{◌≡◌, length}
use Rattle.locations.specs.TextLines.{last_line, last_line_or}
use Rattle.locations.proofs.lines.last_line.Given as goal

abbrev pub invariant-loop-left : goal.invariant-loop-left
invariant-loop-left l = last_line l.text ≡ last_line_or l.line l.left

abbrev pub decreases-loop-left : goal.decreases-loop-left
decreases-loop-left l = length l.left

-- What is done and what is left make the whole.
use Rattle.std.proofs.Common.{◌≡◌, ◌++◌, length}
use Rattle.wavetexts.specs.AtTimes.{arranged, at_times, lines_of}
use Rattle.wavetexts.proofs.arranging.at_times.Given as goal

abbrev pub invariant-loop-line : goal.invariant-loop-line
invariant-loop-line l =
    l.arranging.done.items ++ arranged l.fn.registers l.arranging.left l.arranging.held.items (lines_of l.rest) ≡ at_times l.fn.registers l.fn.text

abbrev pub decreases-loop-line : goal.decreases-loop-line
decreases-loop-line l = length l.rest

use Rattle.std.proofs.Common.{◌<◌}
use Rattle.explore.proofs.line_groups.full_length.Given as goal

abbrev pub invariant-loop-at : goal.invariant-loop-at
invariant-loop-at l = l.lines < 16

use Rattle.std.proofs.Common.{◌+◌, ◌≤◌, length}
use Rattle.verdict.specs.VerdictLines.{AgreeBefore}
use Rattle.verdict.proofs.difference.first_difference.Given as goal

abbrev pub invariant-loop-ones : goal.invariant-loop-ones
invariant-loop-ones l = record {
  agree : AgreeBefore l.line l.fn.first l.fn.second l.ones l.others;
  bound : l.line + length l.ones ≤ length l.fn.first + 1;
}

abbrev pub decreases-loop-ones : goal.decreases-loop-ones
decreases-loop-ones l = length l.ones + length l.others

-- The place is within the code.
use Rattle.std.proofs.Common.{◌≤◌, length}
use Rattle.executed.proofs.statements.end_of.Given as goal

abbrev pub invariant-loop-process : goal.invariant-loop-process
invariant-loop-process l = l.end ≤ length l.design.nodes

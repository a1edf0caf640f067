-- The modules are taken from the last to the first.
use Rattle.std.proofs.Common.{◌≤◌, length}
use Rattle.hierarchy.proofs.modules.ModuleTable.new.Given as goal

abbrev pub invariant-loop-number : goal.invariant-loop-number
invariant-loop-number l = l.number ≤ length l.modules

abbrev pub decreases-loop-number : goal.decreases-loop-number
decreases-loop-number l = l.number

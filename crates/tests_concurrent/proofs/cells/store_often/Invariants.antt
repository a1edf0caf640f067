use Rattle.std.proofs.Common.{◌≡◌}
use Rattle.tests_concurrent.proofs.cells.store_often.Given as goal

abbrev pub invariant-loop : goal.invariant-loop
invariant-loop g l = l.holder.cells ≡ l.initial.holder.cells

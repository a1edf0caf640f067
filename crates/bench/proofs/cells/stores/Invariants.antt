use Rattle.std.proofs.Common.{◌≡◌}
use Rattle.bench.proofs.cells.stores.Given as goal

abbrev pub invariant-loop-i : goal.invariant-loop-i
invariant-loop-i g l = l.holder.cells ≡ l.initial.holder.cells

use Rattle.std.proofs.Common.{◌≡◌}
use Rattle.bench.proofs.cells.reads.Given as goal

abbrev pub invariant-loop-i : goal.invariant-loop-i
invariant-loop-i g l = l.seat.cells ≡ l.initial.seat.cells

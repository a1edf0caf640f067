use Rattle.std.proofs.Common.{◌≡◌}
use Rattle.tests_concurrent.proofs.cells.read_to_the_last.Given as goal

abbrev pub invariant-loop : goal.invariant-loop
invariant-loop g l = l.seat.cells ≡ l.initial.seat.cells

use Rattle.std.proofs.Common.{◌≡◌, map, take}
use Rattle.steps.specs.Cells.{first_cell}
use Rattle.steps.proofs.cells.first_cells.Given as goal

abbrev pub invariant-loop-width : goal.invariant-loop-width
invariant-loop-width l = l.cells.items ≡ map first_cell (take l.width-index l.width-items)

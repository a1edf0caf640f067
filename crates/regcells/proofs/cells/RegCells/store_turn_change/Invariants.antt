use Rattle.model.specs.Runs.{values_in}
use Rattle.regcells.proofs.cells.RegCells.store_turn_change.Given as goal

abbrev pub ghosts-write : goal.ghosts-write
ghosts-write g a = record { given = values_in a.turn_change.register a._writes.now }

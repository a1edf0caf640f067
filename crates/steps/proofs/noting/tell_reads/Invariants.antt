use Rattle.std.proofs.Common.{◌≡◌, map, take}
use Rattle.turn.specs.Reads.{registers}
use Rattle.steps.specs.Cells.{reading_in}
use Rattle.steps.proofs.noting.tell_reads.Given as goal

abbrev pub invariant-loop-place : goal.invariant-loop-place
invariant-loop-place l = l.told.items ≡ map (reading_in l.cells) (take l.place (registers l.reads.entries))

-- With processes for what is left, all are made.
use Rattle.std.proofs.Common.{List, ◌++◌, drop}
use Rattle.statement_parts.specs.declared.plain.PlainProcess.{PlainProcess}
use Rattle.routines.specs.Designs.{AreMadeForPlaced, IsAmong}
use Rattle.routines.proofs.processes.plain_bodies.Given as goal

abbrev pub invariant-loop-placed : goal.invariant-loop-placed
invariant-loop-placed l = (rest : List PlainProcess) → AreMadeForPlaced (IsAmong l.processes) (drop l.placed-index l.all) rest → AreMadeForPlaced (IsAmong l.processes) l.all (l.made.items ++ rest)

-- The processes so far are made, with all hidden variables so far.
use Rattle.std.proofs.Common.{map, take}
use Rattle.model.specs.SourceTrees.{source_process_of}
use Rattle.statement_parts.specs.Places.{surroundings}
use Rattle.lowering.specs.Hidden.{hidden_in}
use Rattle.lowering.specs.Flat.{AreFlatProcesses}
use Rattle.lowering.proofs.flat.flat_module.Given as goal

abbrev pub invariant-loop-process : goal.invariant-loop-process
invariant-loop-process l = AreFlatProcesses (surroundings l.design) (take l.process-index l.processes) (map source_process_of l.procs.items) (hidden_in l.hidden)

use Rattle.std.proofs.Common.{◌≡◌, map, drop}
use Rattle.model.specs.SourceTrees.{source_process_of}
use Rattle.elaborate.specs.FirstFindings.{used_by}
use Rattle.elaborate.proofs.uses.processes.Given as goal

abbrev pub invariant-loop-process : goal.invariant-loop-process
invariant-loop-process l =
    used_by l.names (map source_process_of l.processes) ≡ used_by l.names (map source_process_of (drop l.process-index l.processes))

use Rattle.std.proofs.Common.{◌≡◌, map, drop}
use Rattle.model.specs.SourceTrees.{source_process_of}
use Rattle.elaborate.specs.FirstFindings.{found_by}
use Rattle.elaborate.specs.Formed.{AreFormedProcesses}
use Rattle.elaborate.proofs.check.processes.Given as goal

abbrev pub invariant-loop-process : goal.invariant-loop-process
invariant-loop-process l = record {
  found : found_by l.names (map source_process_of l.processes) ≡ found_by l.names (map source_process_of (drop l.process-index l.processes));
  formed : AreFormedProcesses (map source_process_of (drop l.process-index l.processes)) → AreFormedProcesses (map source_process_of l.processes);
}

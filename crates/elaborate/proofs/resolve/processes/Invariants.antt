use Rattle.std.proofs.Common.{◌≡◌, ◌++◌, map, drop}
use Rattle.design.specs.DesignTrees as tree
use Rattle.model.specs.Elaboration as model
use Rattle.model.specs.SourceTrees.{source_process_of}
use Rattle.elaborate.specs.Small.{AreSmallProcesses}
use Rattle.elaborate.proofs.resolve.processes.Given as goal

abbrev pub invariant-loop-process : goal.invariant-loop-process
invariant-loop-process l = record {
  made : map tree.process_of l.made.items ++ map (model.elaborated_process l.names) (map source_process_of (drop l.process-index l.processes)) ≡ map (model.elaborated_process l.names) (map source_process_of l.processes);
  small : AreSmallProcesses (map source_process_of (drop l.process-index l.processes));
}

use Rattle.std.proofs.Common.{◌≡◌, ◌++◌, map}
use Rattle.std.specs.Vec.Iter.{into_iter_items}
use Rattle.design.specs.DesignTrees as tree
use Rattle.model.specs.Elaboration as model
use Rattle.model.specs.SourceTrees.{source_process_of}
use Rattle.elaborate.specs.Small.{AreSmallProcesses}
use Rattle.elaborate.proofs.resolve.processes_given_up.Given as goal

abbrev pub invariant-loop-process : goal.invariant-loop-process
invariant-loop-process l = record {
  made : map tree.process_of l.made.items ++ map (model.elaborated_process l.names) (map source_process_of (into_iter_items l.process-iterator)) ≡ map (model.elaborated_process l.names) (map source_process_of l.fn.processes.items);
  small : AreSmallProcesses (map source_process_of (into_iter_items l.process-iterator));
}

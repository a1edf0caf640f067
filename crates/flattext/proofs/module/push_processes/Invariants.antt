-- What is still to be put are the processes that are left.
use Rattle.std.proofs.Common.{◌≡◌, ◌++◌, map, drop}
use Rattle.model.specs.SourceTrees.{source_process_of}
use Rattle.flattext.specs.Modules.{processes_text}
use Rattle.flattext.proofs.module.push_processes.Given as goal

abbrev pub invariant-loop-process : goal.invariant-loop-process
invariant-loop-process l =
    l.text.items ++ processes_text (map source_process_of (drop l.process-index l.processes)) ≡ l.fn.text.items ++ processes_text (map source_process_of l.processes)

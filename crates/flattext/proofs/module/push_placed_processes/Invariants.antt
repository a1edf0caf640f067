-- What is still to be put are the processes that are left, behind the places that are left.
use Rattle.std.proofs.Common.{◌≡◌, ◌++◌, map, drop}
use Rattle.model.specs.SourceTrees.{source_process_of}
use Rattle.flattext.specs.Modules.{placed_processes_text}
use Rattle.flattext.proofs.module.push_placed_processes.Given as goal

abbrev pub invariant-loop-number : goal.invariant-loop-number
invariant-loop-number l =
    l.text.items ++ placed_processes_text (drop l.number (map (λ words. words.now) l.places)) (map source_process_of (drop l.number l.processes))
    ≡ l.fn.text.items ++ placed_processes_text (map (λ words. words.now) l.places) (map source_process_of l.processes)

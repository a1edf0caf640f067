use Rattle.std.proofs.Common.{◌≡◌, ◌++◌, length, drop, map}
use Rattle.design.specs.DesignTrees.{process_of}
use Rattle.design.specs.Extents.{all_extents}
use Rattle.design.proofs.extents.extents_of.Given as goal

-- the table so far, and what the processes add that are left
abbrev pub invariant-loop-process : goal.invariant-loop-process
invariant-loop-process l =
    l.table.items ++ all_extents (length l.table.items) (map process_of (drop l.process-index l.processes))
    ≡ all_extents 0 (map process_of l.processes)

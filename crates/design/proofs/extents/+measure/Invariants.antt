use Rattle.std.proofs.Common.{◌≡◌, ◌++◌, length, drop}
use Rattle.design.specs.DesignTrees.{statements_of}
use Rattle.design.specs.Extents.{extents}
use Rattle.design.proofs.extents.+measure.Given as goal

-- the table so far, and what the statements add that are left
abbrev pub invariant-measure_all-loop-statement : goal.invariant-measure_all-loop-statement
invariant-measure_all-loop-statement l =
    l.table.items ++ extents (length l.table.items) (statements_of (drop l.statement-index l.statements))
    ≡ l.initial.table.items ++ extents (length l.initial.table.items) (statements_of l.statements)

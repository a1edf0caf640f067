use Rattle.std.proofs.Common.{◌≡◌, ◌++◌, drop}
use Rattle.design.specs.DesignTrees.{statements_of}
use Rattle.loosejournals.specs.Classes.{targets_of}
use Rattle.loosejournals.proofs.targets.+targets.Given as goal

-- those so far, and those of the statements that are left
abbrev pub invariant-add_targets-loop-statement : goal.invariant-add_targets-loop-statement
invariant-add_targets-loop-statement l =
    l.targets.items ++ targets_of (statements_of (drop l.statement-index l.statements)) ≡ l.fn.targets.items ++ targets_of (statements_of l.statements)

use Rattle.std.proofs.Common.{◌≡◌, drop}
use Rattle.design.specs.DesignTrees.{statements_of}
use Rattle.phases.specs.Combinational.{is_plain as plain}
use Rattle.combinational.proofs.body.+plain.Given as goal

-- all are plain where those that are left are
abbrev pub invariant-is_plain-loop-statement : goal.invariant-is_plain-loop-statement
invariant-is_plain-loop-statement l = plain (statements_of (drop l.statement-index l.statements)) ≡ plain (statements_of l.statements)

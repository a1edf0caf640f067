use Rattle.std.proofs.Common.{◌≡◌, drop}
use Rattle.model.specs.Syntax.{all_registers_of}
use Rattle.model.specs.Turns.{contains}
use Rattle.design.specs.DesignTrees.{expressions_of}
use Rattle.combinational.proofs.expression.+reads.Given as goal

-- it is read by all where it is by those that are left
abbrev pub invariant-any_reads-loop-expression : goal.invariant-any_reads-loop-expression
invariant-any_reads-loop-expression l = contains (all_registers_of (expressions_of (drop l.expression-index l.expressions))) l.register ≡ contains (all_registers_of (expressions_of l.expressions)) l.register

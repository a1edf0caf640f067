-- The targets so far with those of one statement more, and those of the statements in a choice.
use Rattle.std.proofs.Common.{◌++◌, arith}
use Rattle.design.specs.DesignTrees.{statements_of}
use Rattle.loosejournals.specs.Classes.{targets_of}
use Rattle.loosejournals.proofs.AddedTargets.{targets_more, targets_if}
use Rattle.loosejournals.proofs.targets.+targets.Goals as goal

pub add_targets-loop-statement-preserved : goal.add_targets-loop-statement-preserved
add_targets-loop-statement-preserved t c =
    targets_more c.args.statements.now c.loop-statement.statement-index c.statement-item.result c.loop-statement.targets.items c.add_targets_in.new.targets.items
    (c.args.targets.now.items ++ targets_of (statements_of c.args.statements.now)) (omega arith) c.statement-item.is c.in_ok-add_targets_in.ensures
    c.loop-statement.invariant

pub add_targets_in-returns-in_ok-add_targets-in-If-2 : goal.add_targets_in-returns-in_ok-add_targets-in-If-2
add_targets_in-returns-in_ok-add_targets-in-If-2 t c =
    targets_if c.args.statement.now c.in-If.field-0 c.in-If.body c.in-If.otherwise c.deref-in-If.result.now c.deref-in-If-2.result.now c.args.targets.now.items
    c.add_targets-in-If.new.targets.items c.add_targets-in-If-2.new.targets.items c.in-If.is c.deref-in-If.ensures.value c.deref-in-If-2.ensures.value
    c.in_ok-add_targets-in-If.ensures c.in_ok-add_targets-in-If-2.ensures

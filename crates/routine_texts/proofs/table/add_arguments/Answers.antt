-- One argument more.
use Rattle.routine_texts.proofs.Arguments.{argument_same, argument_added}
use Rattle.routine_texts.proofs.table.add_arguments.Goals as goal

pub loop-declarator-preserved : goal.loop-declarator-preserved
loop-declarator-preserved c =
    argument_added c.deref-declarator-items.result.now c.args.source.now.declarators.items c.loop-declarator.declarator-index c.declarator-item.result c.args.source.now.direction c.loop-declarator.found.items c.push.new.self.items _ _ c.deref-declarator-items.ensures.value
    c.loop-declarator-test.true c.declarator-item.is c.in_ok-push.ensures.items (argument_same c.args.source.now.direction c.as_slice.result.now c.declarator-item.result c.as_slice.ensures.value) c.loop-declarator.invariant

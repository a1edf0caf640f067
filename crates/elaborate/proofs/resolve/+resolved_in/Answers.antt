use Rattle.design.specs.DesignTrees as tree
use Rattle.elaborate.proofs.Turns.{one_statement, last_statement, others_small}
use Rattle.elaborate.proofs.resolve.+resolved_in.Goals as goal

pub all-loop-s-preserved : goal.all-loop-s-preserved
all-loop-s-preserved t c = record {
  made = one_statement c.args.names.now c.args.body.now c.loop-s.s-index _ (tree.statements_of c.loop-s.into.items) c.s-item.result (tree.statements_of c.statement.new.into.items) c.loop-s-test.true c.s-item.is c.in_ok-statement.ensures c.loop-s.invariant.made;
  small = others_small c.args.body.now c.loop-s.s-index c.s-item.result c.loop-s-test.true c.s-item.is c.loop-s.invariant.small;
}

pub all-returns : goal.all-returns
all-returns t c = last_statement c.args.names.now c.args.body.now c.loop-s.s-index _ (tree.statements_of c.loop-s.into.items) c.loop-s-test.false c.loop-s.invariant.made

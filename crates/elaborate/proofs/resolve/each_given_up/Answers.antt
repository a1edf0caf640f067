use Rattle.std.proofs.Common.{map, subst}
use Rattle.std.specs.Vec.Iter.{into_iter_items}
use Rattle.model.specs.SourceTrees.{source_statement_of, source_statements}
use Rattle.design.specs.DesignTrees as tree
use Rattle.elaborate.specs.Small.{AreSmallStatements}
use Rattle.elaborate.proofs.Turns.{one_left, none_left, no_items}
use Rattle.elaborate.proofs.resolve.each_given_up.Goals as goal

pub loop-one-preserved : goal.loop-one-preserved
loop-one-preserved c = record {
  made = one_left c.args.names.now _ (tree.statements_of c.loop-one.made.items) c.in-Some.one (tree.statements_of c.one_given_up.new.into.items) (into_iter_items c.loop-one.one-iterator) (into_iter_items c.next.new.self) c.in-Some.ensures.steps.0 c.in_ok-one_given_up.ensures c.loop-one.invariant.made;
  small = (subst (λ xs. AreSmallStatements (source_statements (map source_statement_of xs))) c.in-Some.ensures.steps.0 c.loop-one.invariant.small).1;
}

pub returns : goal.returns
returns c = none_left c.args.names.now _ (tree.statements_of c.loop-one.made.items) (into_iter_items c.loop-one.one-iterator) (no_items c.loop-one.one-iterator c.in-None.ensures.steps.0) c.loop-one.invariant.made

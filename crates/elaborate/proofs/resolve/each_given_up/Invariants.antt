use Rattle.std.proofs.Common.{◌≡◌, map}
use Rattle.std.specs.Vec.Iter.{into_iter_items}
use Rattle.design.specs.DesignTrees as tree
use Rattle.model.specs.Elaboration.{block_of, followed_by}
use Rattle.model.specs.SourceTrees.{source_statement_of, source_statements}
use Rattle.elaborate.specs.Small.{AreSmallStatements}
use Rattle.elaborate.proofs.resolve.each_given_up.Given as goal

abbrev pub invariant-loop-one : goal.invariant-loop-one
invariant-loop-one l = record {
  made : followed_by (tree.statements_of l.made.items) (block_of l.names (source_statements (map source_statement_of (into_iter_items l.one-iterator)))) ≡ block_of l.names (source_statements (map source_statement_of l.fn.body.items));
  small : AreSmallStatements (source_statements (map source_statement_of (into_iter_items l.one-iterator)));
}

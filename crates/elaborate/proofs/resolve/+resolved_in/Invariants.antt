use Rattle.std.proofs.Common.{◌≡◌, map, drop}
use Rattle.design.specs.DesignTrees as tree
use Rattle.model.specs.Elaboration.{block_of, followed_by}
use Rattle.model.specs.SourceTrees.{source_statement_of, source_statements}
use Rattle.elaborate.specs.Small.{AreSmallStatements}
use Rattle.elaborate.proofs.resolve.+resolved_in.Given as goal

abbrev pub invariant-all-loop-s : goal.invariant-all-loop-s
invariant-all-loop-s l = record {
  made : followed_by (tree.statements_of l.into.items) (block_of l.names (source_statements (map source_statement_of (drop l.s-index l.body)))) ≡ followed_by (tree.statements_of l.initial.into.items) (block_of l.names (source_statements (map source_statement_of l.body)));
  small : AreSmallStatements (source_statements (map source_statement_of (drop l.s-index l.body)));
}

use Rattle.model.specs.SourceTrees.{source_expression_of, source_statement_of}
use Rattle.lowering.proofs.Boxed.{for_taken_out}
use Rattle.lowering.proofs.statements.counting.Goals as goal

pub returns : goal.returns
returns c = (
  source_statement_of c.in_ok-first.first.value,
  source_statement_of c.in_ok-next.next.value,
  source_expression_of c.in_ok-tree.tree.value,
  c.in_ok-first.ensures,
  c.in_ok-next.ensures,
  c.in_ok-tree.ensures,
  for_taken_out _ _ _ _ _ _ _ _ _ c.in_ok-made.ensures c.into_inner.ensures c.into_inner-2.ensures c.into_inner-3.ensures c.into_inner-4.ensures,
)

use Rattle.model.specs.SourceTrees.{source_expression_of}
use Rattle.lowering.proofs.Boxed.{wait_taken_out}
use Rattle.lowering.proofs.statements.waiting.Goals as goal

pub returns : goal.returns
returns c = (
  source_expression_of c.in_ok-tree.tree.value,
  c.in_ok-tree.ensures,
  wait_taken_out _ _ _ _ _ _ _ c.in_ok-made.ensures c.into_inner-tree.ensures c.into_inner-body.ensures c.deref.ensures c.in_ok-changes.ensures,
)

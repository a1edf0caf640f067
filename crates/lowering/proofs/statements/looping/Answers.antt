use Rattle.model.specs.SourceTrees.{source_expression_of}
use Rattle.lowering.proofs.Boxed.{while_taken_out}
use Rattle.lowering.proofs.statements.looping.Goals as goal

pub returns : goal.returns
returns c = (source_expression_of c.in_ok-tree.tree.value, c.in_ok-tree.ensures, while_taken_out _ _ _ _ _ _ c.while_of.ensures c.into_inner-2.ensures c.in_ok-body.ensures c.into_inner.ensures)

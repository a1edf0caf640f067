use Rattle.std.proofs.Common.{◌∙◌}
use Rattle.model.specs.SourceTrees.{source_expression_of}
use Rattle.sizing.proofs.Made.{made_inverted}
use Rattle.sizing.proofs.operators.inverted.Goals as goal

pub returns : goal.returns
returns c = λ n m h.
    made_inverted n m c.args.operator c.digit.result.shape (source_expression_of c.in_ok-operand.operand) (source_expression_of c.in_ok-inner.inner)
    (source_expression_of c.digit.result.tree) (c.in_ok-operand.ensures n m h) c.requires c.in_ok-inner.ensures
    (c.digit.ensures.tree ∙ c.in_ok-tree.ensures) c.digit.ensures.width c.digit.ensures.signed

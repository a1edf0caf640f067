use Rattle.std.proofs.Common.{◌∙◌}
use Rattle.model.specs.SourceTrees.{source_expression_of}
use Rattle.sizing.proofs.Made.{made_compared}
use Rattle.sizing.proofs.operators.compare.Goals as goal

pub returns : goal.returns
returns c = λ n width v w o.
    made_compared n c.args.operator c.digit.result.shape width v w (source_expression_of c.args.left) (source_expression_of c.args.right)
    (source_expression_of c.digit.result.tree) o c.requires (c.digit.ensures.tree ∙ c.in_ok-tree.ensures) c.digit.ensures.width c.digit.ensures.signed

use Rattle.std.proofs.Common.{◌∙◌}
use Rattle.model.specs.SourceTrees.{source_expression_of}
use Rattle.sizing.proofs.Made.{made_decided}
use Rattle.sizing.proofs.operators.decide.Goals as goal

pub returns : goal.returns
returns c = λ n m k h g.
    made_decided n c.args.operator m k c.digit.result.shape (source_expression_of c.in_ok-left.left) (source_expression_of c.in_ok-right.right)
    (source_expression_of c.digit.result.tree) (c.in_ok-left.ensures n m h) (c.in_ok-right.ensures n k g) c.requires
    (c.digit.ensures.tree ∙ c.in_ok-tree.ensures) c.digit.ensures.width c.digit.ensures.signed

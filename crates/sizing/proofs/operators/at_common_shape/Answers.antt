use Rattle.std.proofs.Common.{◌∙◌, max, ◌&&◌}
use Rattle.model.specs.SourceTrees.{source_expression_of}
use Rattle.sizing.proofs.Made.{made_operands, common_sign}
use Rattle.sizing.proofs.operators.at_common_shape.Goals as goal

pub returns-clause-sign : goal.returns-clause-sign
returns-clause-sign c = λ n m k t u.
    common_sign n m k c.args.left.shape c.args.right.shape c.joined-shape.result (source_expression_of c.args.left.tree) (source_expression_of c.args.right.tree) t u
    (c.joined-shape.ensures.signed ∙ (λ i. (c.shape-own.ensures i).signed && (c.shape-other.ensures i).signed))

pub returns-clause-values : goal.returns-clause-values
returns-clause-values c = λ n m k t u.
    made_operands n m k c.args.left.shape c.args.right.shape c.joined-shape.result (source_expression_of c.args.left.tree) (source_expression_of c.args.right.tree)
    (source_expression_of c.in_ok-left.left) (source_expression_of c.in_ok-right.right) t u
    (c.joined-shape.ensures.width ∙ (λ i. max (c.shape-own.ensures i).width (c.shape-other.ensures i).width))
    (c.joined-shape.ensures.signed ∙ (λ i. (c.shape-own.ensures i).signed && (c.shape-other.ensures i).signed))
    c.in_ok-left.ensures c.in_ok-right.ensures

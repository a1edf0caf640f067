use Rattle.std.proofs.Common.{◌≤◌, ◌∙◌, ap, arith}
use Rattle.logic4.specs.Vector.{vector}
use Rattle.model.specs.Syntax as core
use Rattle.model.specs.SourceTrees.{source_expression_of}
use Rattle.sizing.proofs.Made.{made_minus}
use Rattle.sizing.proofs.operators.negative.Goals as goal

pub returns : goal.returns
returns c = λ n m h.
    let some : 1 ≤ c.args.operand.shape.width = omega (arith, c.get.ensures.some, c.get.ensures.value) in
    let digits = c.from_u64.ensures.value ∙ ap (λ k. vector k 0) c.get.ensures.value in
    made_minus n m c.args.operand.shape (source_expression_of c.args.operand.tree) (source_expression_of c.literal_of-nought.result)
    (source_expression_of c.in_ok-binary_of.field-0) h some (c.literal_of-nought.ensures ∙ ap core.Literal digits) c.in_ok-binary_of.ensures

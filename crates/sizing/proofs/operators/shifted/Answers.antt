use Rattle.model.specs.SourceTrees.{source_expression_of}
use Rattle.sizing.proofs.Made.{made_shifted}
use Rattle.sizing.proofs.operators.shifted.Goals as goal

pub returns : goal.returns
returns c = λ n m k h g.
    made_shifted n m k c.args.operator c.args.left.shape (source_expression_of c.args.left.tree) (source_expression_of c.in_ok-by.by)
    (source_expression_of c.in_ok-binary_of.field-0) h (c.in_ok-by.ensures n k g) c.requires c.in_ok-binary_of.ensures

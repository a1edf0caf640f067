use Rattle.model.specs.SourceTrees.{source_expression_of}
use Rattle.sizing.proofs.Follows.{on_ok}
use Rattle.sizing.proofs.Orders.{equal_told}
use Rattle.sizing.proofs.operators.equal.Goals as goal

pub returns : goal.returns
returns c =
    let o = c.in_ok-o.o in
    on_ok c.compare.result _ _ c.compare.ensures
    (λ t told n m k h g.
    equal_told n m k c.args.left.shape c.args.right.shape (source_expression_of c.args.left.tree) (source_expression_of c.args.right.tree)
    (source_expression_of o.left) (source_expression_of o.right) o.signed t.shape (source_expression_of t.tree) h g
    c.in_ok-o.ensures.sign c.in_ok-o.ensures.values c.args.operator told)

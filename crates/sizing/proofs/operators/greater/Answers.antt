use Rattle.model.specs.SourceTrees.{source_expression_of}
use Rattle.sizing.proofs.Follows.{on_ok}
use Rattle.sizing.specs.Typing.{comparison}
use Rattle.sizing.proofs.Orders.{greater_signed, order_plain}
use Rattle.sizing.proofs.operators.greater.Goals as goal

pub returns-then-o : goal.returns-then-o
returns-then-o c =
    let o = c.in_ok-o.o in
    on_ok c.compare.result _ _ c.compare.ensures
    (λ t told n m k h g.
    greater_signed n m k c.args.left.shape c.args.right.shape (source_expression_of c.args.left.tree) (source_expression_of c.args.right.tree)
    (source_expression_of o.left) (source_expression_of o.right) o.signed t.shape (source_expression_of t.tree) h g
    c.in_ok-o.ensures.sign c.in_ok-o.ensures.values c.args.signed c.args.plain c.if-o.true told)

pub returns-else-o : goal.returns-else-o
returns-else-o c =
    let o = c.in_ok-o.o in
    on_ok c.compare-else-o.result _ _ c.compare-else-o.ensures
    (λ t told n m k h g.
    order_plain n m k c.args.left.shape c.args.right.shape (source_expression_of c.args.left.tree) (source_expression_of c.args.right.tree)
    (source_expression_of o.left) (source_expression_of o.right) o.signed t.shape (source_expression_of t.tree) h g
    c.in_ok-o.ensures.sign c.in_ok-o.ensures.values (λ v w. comparison c.args.signed w v) c.args.plain c.if-o.false told)

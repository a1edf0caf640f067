use Rattle.model.specs.SourceTrees.{source_expression_of}
use Rattle.sizing.proofs.Worth.{worth_is}
use Rattle.sizing.proofs.typed.Typed.worth.Goals as goal

pub returns-in-Some : goal.returns-in-Some
returns-in-Some c = λ n m h.
    worth_is n m c.args.self.shape (source_expression_of c.args.self.tree) (source_expression_of c.in_ok-tree.tree) c.args.shape h c.in_ok-tree.ensures
    c.in-Some.ensures.closed c.in-Some.digits c.in-Some.ensures.value

use Rattle.model.specs.SourceTrees.{source_expression_of}
use Rattle.sizing.proofs.Made.{made_chosen}
use Rattle.sizing.proofs.operators.conditional.Goals as goal

pub returns : goal.returns
returns c = λ n cm m k s h g.
    made_chosen n cm m k c.args.first.shape c.args.second.shape c.joined.result (source_expression_of c.in_ok-test.test)
    (source_expression_of c.args.first.tree) (source_expression_of c.args.second.tree) (source_expression_of c.in_ok-conditional_of.field-0)
    (c.in_ok-test.ensures n cm s) h g c.joined.ensures.width c.joined.ensures.signed c.in_ok-conditional_of.ensures

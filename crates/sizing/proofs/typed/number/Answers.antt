use Rattle.std.proofs.Common.{◌∙◌, sym}
use Rattle.model.specs.SourceTrees.{source_expression_of}
use Rattle.sizing.proofs.Follows.{on_ok}
use Rattle.sizing.proofs.Selections.{plain_number, filling_number}
use Rattle.sizing.proofs.typed.number.Goals as goal

pub returns-then-fills_up : goal.returns-then-fills_up
returns-then-fills_up c =
    on_ok c.filling.result _ _ c.filling.ensures
    (λ t h n. filling_number n c.args.sized c.args.signed c.args.digits t.shape (source_expression_of t.tree) (sym c.fills_up.ensures ∙ c.if-fills_up.true) (h n))

pub returns : goal.returns
returns c = λ n.
    plain_number n c.args.sized c.args.signed c.args.digits c.literal.result.shape (source_expression_of c.literal.result.tree)
    (sym c.fills_up.ensures ∙ c.if-fills_up.false) (c.literal.ensures n)

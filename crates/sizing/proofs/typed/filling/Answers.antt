use Rattle.std.proofs.Common.{◌∙◌, refl, false}
use Rattle.model.specs.SourceTrees.{source_expression_of}
use Rattle.sizing.proofs.Selections.{made_filling}
use Rattle.sizing.proofs.typed.filling.Goals as goal

pub returns : goal.returns
returns c = λ n.
    made_filling n c.args.digits c.new-width.result (record { width = c.new-width.result; signed = false }) (source_expression_of c.literal_of-inner.result)
    (source_expression_of c.in_ok-tree.tree) (c.new-width.ensures ∙ c.width.ensures.value) (c.new-width.ensures ∙ c.width.ensures.value) refl
    c.literal_of-inner.ensures c.in_ok-tree.ensures

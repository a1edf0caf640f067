use Rattle.std.proofs.Common.{◌∙◌, ap, refl}
use Rattle.model.specs.SourceTrees.{source_expression_of}
use Rattle.shaped_trees.specs.declared.shape.Shape.{Shape}
use Rattle.sizing.proofs.Alone.{converted_part}
use Rattle.sizing.proofs.operators.converted.Goals as goal

pub returns : goal.returns
returns c = λ n m h.
    converted_part n m c.args.signed (record { width = c.shape-shape.result.width; signed = c.args.signed }) c.in_ok-operand.operand c.new.result.items
    (source_expression_of c.in_ok-concat_of.field-0) (c.in_ok-operand.ensures n m h)
    (ap (λ (s : Shape). s.width) c.shape-shape.ensures ∙ h.size) refl c.new.ensures.items c.in_ok-concat_of.ensures

use Rattle.std.proofs.Common.{◌∙◌, refl}
use Rattle.model.specs.SourceTrees.{source_expression_of}
use Rattle.sizing.proofs.Made.{made_literal}
use Rattle.sizing.proofs.typed.literal.Goals as goal

pub returns : goal.returns
returns c = λ n.
    made_literal n c.args.signed c.args.digits (record { width = c.new.result; signed = c.args.signed }) (source_expression_of c.literal_of.result)
    (c.new.ensures ∙ c.width.ensures.value) refl c.literal_of.ensures

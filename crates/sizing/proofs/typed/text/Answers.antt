use Rattle.std.proofs.Common.{false}
use Rattle.model.specs.SourceTrees.{source_expression_of}
use Rattle.sizing.specs.Meanings.{text_digits}
use Rattle.sizing.proofs.Made.{same_literal}
use Rattle.sizing.proofs.typed.text.Goals as goal

pub returns : goal.returns
returns c = λ n.
    same_literal n false c.in_ok-digits.digits (text_digits c.args.bytes.now) c.literal.result.shape (source_expression_of c.literal.result.tree)
    c.in_ok-digits.ensures (c.literal.ensures n)

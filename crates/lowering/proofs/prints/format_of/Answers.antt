use Rattle.lowering.proofs.Strings.{is_text, is_value}
use Rattle.lowering.proofs.prints.format_of.Goals as goal

pub returns-in-Text : goal.returns-in-Text
returns-in-Text c = is_text c.args.e.now _ c.in-Text.bytes c.as_slice.result.now c.in-Text.is c.as_slice.ensures.value

pub returns-in_default : goal.returns-in_default
returns-in_default c = is_value c.args.e.now c.in_default.not-Text

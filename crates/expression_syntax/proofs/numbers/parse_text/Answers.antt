use Rattle.expression_syntax.proofs.Steps.{text_is}
use Rattle.expression_syntax.proofs.numbers.parse_text.Goals as goal

pub returns : goal.returns
returns c =
    text_is _ _ _ _ _ _ _ c.requires c.take-token.ensures.token c.take-token.ensures.moved c.token_bytes.ensures c.in_ok-bytes.ensures c.in_ok-text_of.ensures

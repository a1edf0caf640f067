use Rattle.expression_syntax.proofs.Steps.{real_is}
use Rattle.expression_syntax.proofs.numbers.parse_real.Goals as goal

pub returns : goal.returns
returns c = real_is _ _ _ _ _ _ c.requires c.take-token.ensures.token c.take-token.ensures.moved c.in_ok-text.ensures c.in_ok-real_of.ensures

use Rattle.expression_syntax.proofs.Steps.{name_is}
use Rattle.expression_syntax.proofs.reading.parse_name.Goals as goal

pub returns : goal.returns
returns c =
    name_is _ _ _ _ _ _ c.in_ok-token.ensures.0 c.in_ok-token.ensures.1 c.in_ok-token.ensures.2 c.in_ok-name.ensures c.in_ok-name_of.ensures

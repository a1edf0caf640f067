use Rattle.expression_syntax.proofs.Steps.{member_is}
use Rattle.expression_syntax.proofs.reading.parse_member.Goals as goal

pub returns : goal.returns
returns c =
    λ a h. member_is _ a _ _ _ _ _ _ _ h c.in_ok-expect.ensures.1 c.in_ok-expect.ensures.2 c.in_ok-token.ensures.0 c.in_ok-token.ensures.1 c.in_ok-token.ensures.2 c.in_ok-name.ensures c.in_ok-member_of.ensures

use Rattle.std.proofs.Common.{refl}
use Rattle.expression_syntax.proofs.Steps.{sized_is, node_primary}
use Rattle.expression_syntax.proofs.numbers.parse_sized.Goals as goal

pub returns : goal.returns
returns c =
    node_primary _ _ _ _ _ _ _
    (sized_is _ _ _ _ _ _ _ _ _ _ _ c.requires.number c.requires.follows c.requires.base c.take-base.ensures.token c.take-base.ensures.moved c.in_ok-digits.ensures.0 c.in_ok-digits.ensures.1 c.in_ok-digits.ensures.2 c.token_bytes.ensures c.token_bytes-2.ensures c.token_bytes-3.ensures c.in_ok-reading.ensures)
    refl c.number_node.ensures.same c.number_node.ensures.node

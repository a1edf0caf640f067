use Rattle.expression_syntax.proofs.Steps.{based_is, node_primary}
use Rattle.expression_syntax.proofs.numbers.parse_based.Goals as goal

pub returns : goal.returns
returns c =
    node_primary _ _ _ _ _ _ _
    (based_is _ _ _ _ _ _ _ _ _ c.in_ok-base.ensures.0 c.in_ok-base.ensures.1 c.in_ok-base.ensures.2 c.in_ok-digits.ensures.0 c.in_ok-digits.ensures.1 c.in_ok-digits.ensures.2 c.token_bytes.ensures c.token_bytes-2.ensures c.in_ok-reading.ensures)
    c.in_ok-base.ensures.0 c.number_node.ensures.same c.number_node.ensures.node

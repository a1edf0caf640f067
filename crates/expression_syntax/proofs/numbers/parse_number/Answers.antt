use Rattle.expression_syntax.proofs.Steps.{plain_is, node_primary}
use Rattle.expression_syntax.proofs.numbers.parse_number.Goals as goal

pub returns : goal.returns
returns c =
    node_primary _ _ _ _ _ _ _
    (plain_is _ _ _ _ _ _ c.requires c.take-first.ensures.token c.take-first.ensures.moved c.token_bytes.ensures c.plain_number-reading.ensures)
    c.take-first.ensures.token c.number_node.ensures.same c.number_node.ensures.node

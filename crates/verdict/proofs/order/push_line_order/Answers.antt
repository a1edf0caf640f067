-- The parts are those of the line.
use Rattle.verdict.proofs.order.push_line_order.Goals as goal

pub returns : goal.returns
returns c = c.push_parts.ensures

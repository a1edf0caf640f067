-- The parts, one after another.
use Rattle.traces.proofs.Orders as orders
use Rattle.traces.proofs.laws.parts_go_in_any_order.Goals as goal

pub returns : goal.returns
returns g c = orders.in_any_order g.M.System.moves

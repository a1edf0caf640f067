-- The part that ends a run.
use Rattle.traces.proofs.Endings as endings
use Rattle.traces.proofs.laws.ends_are_of_one_part.Goals as goal

pub returns : goal.returns
returns g c = endings.ending_ways g.M.System.moves

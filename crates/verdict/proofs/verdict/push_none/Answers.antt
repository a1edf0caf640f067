-- The parts are those of the line.
use Rattle.verdict.proofs.verdict.push_none.Goals as goal

pub returns : goal.returns
returns c = c.push_parts.ensures

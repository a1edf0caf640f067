-- The parts are those of the line.
use Rattle.verdict.proofs.unseen.push_raced_pair.Goals as goal

pub returns : goal.returns
returns c = c.push_parts.ensures

-- The parts are those of the line.
use Rattle.verdict.proofs.reach.push_some_choices.Goals as goal

pub returns : goal.returns
returns c = c.push_parts.ensures

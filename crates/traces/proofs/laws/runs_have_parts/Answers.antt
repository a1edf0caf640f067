-- What each part does.
use Rattle.traces.proofs.Projections as projections
use Rattle.traces.proofs.laws.runs_have_parts.Goals as goal

pub returns-clause-projected : goal.returns-clause-projected
returns-clause-projected g c = projections.projected g.M.System.moves

pub returns-clause-whole : goal.returns-clause-whole
returns-clause-whole g c = projections.whole_ways g.M.System.moves

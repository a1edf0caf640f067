-- Ways, one after another.
use Rattle.traces.proofs.Together as ways
use Rattle.traces.proofs.laws.ways_go_together.Goals as goal

pub returns-clause-together : goal.returns-clause-together
returns-clause-together g c = ways.ways_together g.M.System.moves

pub returns-clause-stand_for : goal.returns-clause-stand_for
returns-clause-stand_for g c = ways.ways_stand_for g.M.System.moves

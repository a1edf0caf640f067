-- Ways through a phase stand for all.
use Rattle.loosewalks.proofs.PhaseWays.{phase_way_stands_for_all}
use Rattle.loosewalks.proofs.laws.phase_ways_stand_for_all.Goals as goal

pub returns : goal.returns
returns c = phase_way_stands_for_all

-- Steps that are apart commute.
use Rattle.footprints.proofs.StepsApart as apart
use Rattle.footprints.proofs.laws.steps_apart_commute.Goals as goal

pub returns-clause-symmetric : goal.returns-clause-symmetric
returns-clause-symmetric c = apart.apart_is_symmetric

pub returns-clause-commute : goal.returns-clause-commute
returns-clause-commute c = apart.steps_apart_commute

pub returns-clause-frame : goal.returns-clause-frame
returns-clause-frame c = apart.frame_at_the_end

pub returns-clause-ended : goal.returns-clause-ended
returns-clause-ended c = apart.ended_is_known

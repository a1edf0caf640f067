-- Loose runs through a phase go on to its end.
use Rattle.loosephases.proofs.PhaseEnds as ends
use Rattle.loosephases.proofs.laws.loose_phases_end.Goals as goal

pub returns-clause-steps : goal.returns-clause-steps
returns-clause-steps c = ends.loose_phase_steps_on

pub returns-clause-completes : goal.returns-clause-completes
returns-clause-completes c = ends.loose_phase_completes

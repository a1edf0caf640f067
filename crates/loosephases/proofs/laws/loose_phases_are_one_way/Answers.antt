-- Loose runs go one way through a phase.
use Rattle.loosephases.proofs.LoosePhaseRuns as runs
use Rattle.loosephases.proofs.laws.loose_phases_are_one_way.Goals as goal

pub returns-clause-node : goal.returns-clause-node
returns-clause-node c = runs.loose_phase_ends_in_one_node

pub returns-clause-prefix : goal.returns-clause-prefix
returns-clause-prefix c = runs.loose_phase_is_prefix

pub returns-clause-covers : goal.returns-clause-covers
returns-clause-covers c = runs.loose_phase_covers

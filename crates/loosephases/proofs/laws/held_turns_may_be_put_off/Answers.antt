-- The turns of held processes may be put off.
use Rattle.loosephases.proofs.HeldRuns as runs
use Rattle.loosephases.proofs.laws.held_turns_may_be_put_off.Goals as goal

pub returns-clause-node : goal.returns-clause-node
returns-clause-node c = runs.held_is_put_off

pub returns-clause-stays : goal.returns-clause-stays
returns-clause-stays c = runs.held_stays_held

pub returns-clause-phase : goal.returns-clause-phase
returns-clause-phase c = runs.phase_is_held

pub returns-clause-prefix : goal.returns-clause-prefix
returns-clause-prefix c = runs.held_is_prefix

pub returns-clause-covers : goal.returns-clause-covers
returns-clause-covers c = runs.held_covers

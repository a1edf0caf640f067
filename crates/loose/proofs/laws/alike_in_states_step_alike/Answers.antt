-- States that are alike in classes take loose steps alike.
use Rattle.loose.proofs.ClassSteps as steps
use Rattle.loose.proofs.laws.alike_in_states_step_alike.Goals as goal

pub returns-clause-step : goal.returns-clause-step
returns-clause-step c = steps.alike_in_states_step_alike

pub returns-clause-outcome : goal.returns-clause-outcome
returns-clause-outcome c = steps.loose_transition_has_one_outcome

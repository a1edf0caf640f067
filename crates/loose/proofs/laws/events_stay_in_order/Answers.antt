-- The events of each region stay in the order of their numbers.
use Rattle.loose.proofs.LooseSteps.{loose_step_keeps_order, loose_run_keeps_order}
use Rattle.loose.proofs.laws.events_stay_in_order.Goals as goal

pub returns-clause-step : goal.returns-clause-step
returns-clause-step c = loose_step_keeps_order

pub returns-clause-run : goal.returns-clause-run
returns-clause-run c = loose_run_keeps_order

-- Whatever a step does, a loose step does.
use Rattle.loose.proofs.LooseSteps.{step_is_loose, run_is_loose}
use Rattle.loose.proofs.laws.lawful_runs_are_loose.Goals as goal

pub returns-clause-step : goal.returns-clause-step
returns-clause-step c = step_is_loose

pub returns-clause-run : goal.returns-clause-run
returns-clause-run c = run_is_loose

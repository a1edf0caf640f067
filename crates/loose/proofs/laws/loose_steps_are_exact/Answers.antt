-- In which cases an entry is permitted loosely.
use Rattle.loose.proofs.LooseSteps.{loose_step_is_exact, one_class_is_strict}
use Rattle.loose.proofs.laws.loose_steps_are_exact.Goals as goal

pub returns-clause-exact : goal.returns-clause-exact
returns-clause-exact c = loose_step_is_exact

pub returns-clause-strict : goal.returns-clause-strict
returns-clause-strict c = one_class_is_strict

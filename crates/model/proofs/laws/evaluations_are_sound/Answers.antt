-- A process has one evaluation at most, and an active one stays until it is taken.
use Rattle.model.proofs.EvaluationLaws.{each_process_has_one_event, active_evaluations_stay}
use Rattle.model.proofs.laws.evaluations_are_sound.Goals as goal

pub returns-clause-one : goal.returns-clause-one
returns-clause-one c = each_process_has_one_event

pub returns-clause-stay : goal.returns-clause-stay
returns-clause-stay c = active_evaluations_stay

-- A number is that of one active event at most, and an active event stays until it is taken.
use Rattle.model.proofs.RunLaws.{active_events_stand_once}
use Rattle.model.proofs.EvaluationLaws.{active_events_stay}
use Rattle.model.proofs.laws.active_events_are_sound.Goals as goal

pub returns-clause-once : goal.returns-clause-once
returns-clause-once c = active_events_stand_once

pub returns-clause-stay : goal.returns-clause-stay
returns-clause-stay c = active_events_stay

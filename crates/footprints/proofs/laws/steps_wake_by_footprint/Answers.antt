-- What is active after a step.
use Rattle.footprints.proofs.Waiting as waiting
use Rattle.footprints.proofs.laws.steps_wake_by_footprint.Goals as goal

pub returns-clause-stays : goal.returns-clause-stays
returns-clause-stays c = waiting.waiting_stays

pub returns-clause-given : goal.returns-clause-given
returns-clause-given c = waiting.waiting_is_given

pub returns-clause-woken : goal.returns-clause-woken
returns-clause-woken c = waiting.woken_waits

-- The races that are told so far.
use Rattle.races.specs.Races.{AreToldRaces}
use Rattle.races.proofs.trials.Trials.try_rounds.Given as goal

abbrev pub invariant-loop-round : goal.invariant-loop-round
invariant-loop-round g l = AreToldRaces l.task.design.now l.task.limits l.task.original.now l.task.bounds l.self

-- The races that are told so far.
use Rattle.races.specs.Races.{AreToldRaces}
use Rattle.races.proofs.trials.Trials.try_round.Given as goal

abbrev pub invariant-loop-conflict : goal.invariant-loop-conflict
invariant-loop-conflict g l = AreToldRaces l.task.design.now l.task.limits l.task.original.now l.task.bounds l.self

-- What a second run is that is told.
use Rattle.races.proofs.trials.Trials.apart_run.Goals as goal

pub returns-then-are_apart-clause-made : goal.returns-then-are_apart-clause-made
returns-then-are_apart-clause-made c = record { run = c.requires.run; remembered = c.wants_memory.ensures c.if-wants_memory.false; apart = c.are_apart.ensures.0 c.if-are_apart.true }

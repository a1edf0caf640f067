-- No race, where memory was refused.
use Rattle.races.proofs.search.find_races.Goals as goal

pub returns-in-Err-clause-within : goal.returns-in-Err-clause-within
returns-in-Err-clause-within g c = c.without_races.ensures.within c.args.bounds

pub returns-then-wants_memory-clause-within : goal.returns-then-wants_memory-clause-within
returns-then-wants_memory-clause-within g c = c.without_races-then-wants_memory.ensures.within c.args.bounds

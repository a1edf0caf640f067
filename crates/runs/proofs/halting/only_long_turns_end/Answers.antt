-- Where an entry may be next, only a turn that is too long ends a run.
use Rattle.runs.proofs.Halts as halts
use Rattle.runs.proofs.halting.only_long_turns_end.Goals as goal

pub returns : goal.returns
returns c = halts.only_long_turns_end

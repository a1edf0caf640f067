use Rattle.statekeys.proofs.Grouping as grouping
use Rattle.statekeys.proofs.laws.grouping_is_unique.Goals as goal

pub returns : goal.returns
returns c = grouping.grouping_is_unique

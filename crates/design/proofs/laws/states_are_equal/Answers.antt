use Rattle.design.proofs.Numbered as numbered
use Rattle.design.proofs.laws.states_are_equal.Goals as goal

pub returns : goal.returns
returns c = numbered.states_are_equal

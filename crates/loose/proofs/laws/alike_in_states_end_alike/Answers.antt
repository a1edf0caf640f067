-- Runs end and go on alike from states that are alike in classes.
use Rattle.loose.proofs.ClassEnds as ends
use Rattle.loose.proofs.LooseRuns.{one_loose_node_goes_on}
use Rattle.loose.proofs.laws.alike_in_states_end_alike.Goals as goal

pub returns-clause-ends : goal.returns-clause-ends
returns-clause-ends c = ends.alike_in_states_end_alike

pub returns-clause-goes_on : goal.returns-clause-goes_on
returns-clause-goes_on c = one_loose_node_goes_on

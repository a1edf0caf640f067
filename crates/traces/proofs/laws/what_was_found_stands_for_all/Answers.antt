-- What stands for all that a set of actors does.
use Rattle.traces.proofs.Branches as branches
use Rattle.traces.proofs.Combined as combined
use Rattle.traces.proofs.LargerSets as sets
use Rattle.traces.proofs.laws.what_was_found_stands_for_all.Goals as goal

pub returns-clause-steps : goal.returns-clause-steps
returns-clause-steps g c = branches.steps_stand_for g.M.System.moves g.M.System.within

pub returns-clause-parts : goal.returns-clause-parts
returns-clause-parts g c = combined.parts_stand_for g.M.System.moves g.M.System.within

pub returns-clause-larger : goal.returns-clause-larger
returns-clause-larger g c = sets.larger_sets g.M.System.moves g.M.System.within

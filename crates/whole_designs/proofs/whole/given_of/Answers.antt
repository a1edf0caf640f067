-- The faults of values have no place, so they stand in any files.
use Rattle.whole_designs.proofs.whole.given_of.Goals as goal

pub returns : goal.returns
returns c = c.top_parameters.ensures c.args.text.files.now

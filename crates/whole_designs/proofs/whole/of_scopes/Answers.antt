-- The fault stands where its token does.
use Rattle.whole_designs.proofs.PlacedFaults.{found_of_design}
use Rattle.whole_designs.proofs.whole.of_scopes.Goals as goal

pub returns : goal.returns
returns c = found_of_design c.args.text.files.now c.args.text.tokens.now c.args.named c.args.fault c.of_design.result c.requires.stand c.of_design.ensures

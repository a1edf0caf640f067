use Rattle.whole_designs.proofs.PlacedFaults.{found_syntax}
use Rattle.whole_designs.proofs.whole.of_text_faults.Goals as goal

pub returns-in-Ok : goal.returns-in-Ok
returns-in-Ok c = found_syntax c.args.text.files.now c.args.text.tokens.now c.args.found.now c.in-Ok.faults.items c.requires.stand c.requires.says c.in-Ok.ensures

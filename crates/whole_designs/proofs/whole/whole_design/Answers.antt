-- The design is made of the tokens of the files.
use Rattle.whole_designs.proofs.Made.{made_of_files}
use Rattle.whole_designs.proofs.whole.whole_design.Goals as goal

pub returns-in-Ok-clause-made : goal.returns-in-Ok-clause-made
returns-in-Ok-clause-made c =
    made_of_files c.design_of_read.result c.args.files.now c.args.asked.definitions.now c.in-Ok.read.files.items c.in-Ok.read.tokens.items c.in-Ok.ensures.plain c.in-Ok.ensures.tokens c.design_of_read.ensures.made

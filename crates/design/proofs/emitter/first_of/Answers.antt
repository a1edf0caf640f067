use Rattle.std.proofs.Common.{arith}
use Rattle.std.proofs.lemmas.Grind.{common_steps}
use Rattle.design.proofs.Lines.{first_there}
use Rattle.design.proofs.emitter.first_of.Goals as goal

pub returns-else-is_empty : goal.returns-else-is_empty
returns-else-is_empty c = grind (arith, common_steps, first_there)

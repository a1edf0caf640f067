-- By the text that is given.
use Rattle.std.proofs.Common.{ap, is_some, sym}
use Rattle.arguments.proofs.given.gives.Goals as goal

pub returns-in-Some : goal.returns-in-Some
returns-in-Some c = ap is_some (sym c.in-Some.ensures)

pub returns-in-None : goal.returns-in-None
returns-in-None c = ap is_some (sym c.in-None.ensures)

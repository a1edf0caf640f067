-- By the text that is given.
use Rattle.std.proofs.Common.{subst, sym}
use Rattle.arguments.specs.CommandWords.{HasNoRadix}
use Rattle.arguments.proofs.given.has_no_radix.Goals as goal

pub returns-in-Some : goal.returns-in-Some
returns-in-Some c = λ yes. subst HasNoRadix (sym c.in-Some.ensures) (c.stands_for_none.ensures yes)

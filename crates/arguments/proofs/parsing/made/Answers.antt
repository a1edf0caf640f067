-- The error has the kind with which it was made.
use Rattle.std.proofs.Common.{inr}
use Rattle.arguments.proofs.GivenLemmas.{made_so}
use Rattle.arguments.proofs.parsing.made.Goals as goal

pub returns-in-Ok : goal.returns-in-Ok
returns-in-Ok c = λ kind h. inr (made_so c.args.error c.in-Ok.error kind c.in-Ok.is h)

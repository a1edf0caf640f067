-- Nothing that can be observed is asked for.
use Rattle.std.proofs.Common.{inl, inr, refl}
use Rattle.arguments.proofs.parsing.asked_races.Goals as goal

pub returns-in-None-clause-failed : goal.returns-in-None-clause-failed
returns-in-None-clause-failed c = inr (inl (refl, c.in-None.ensures.none refl, c.in_vain.ensures))

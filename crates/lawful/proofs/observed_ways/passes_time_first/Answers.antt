-- What is said of the transitions behind the first.
use Rattle.std.proofs.Common.{sym, subst}
use Rattle.looseruns.specs.ObservedMoves.{PassesTimeFirst}
use Rattle.lawful.proofs.ObservedWays.{first_of_nothing}
use Rattle.lawful.proofs.observed_ways.passes_time_first.Goals as goal

pub returns-in-Some : goal.returns-in-Some
returns-in-Some c = λ stay. subst PassesTimeFirst (sym c.in-Some.ensures.cases.0) (c.stay_in_time.ensures stay)

pub returns-in-None : goal.returns-in-None
returns-in-None c = λ done. first_of_nothing c.args.moves.now c.in-None.ensures.cases

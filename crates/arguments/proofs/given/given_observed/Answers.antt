-- By the text that is given.
use Rattle.std.proofs.Common.{◌≡◌, ℕ, List, Option, None, refl, subst, sym}
use Rattle.std.specs.Prelude.{IfSome}
use Rattle.arguments.specs.Observing.{IsObserved, ObservesNothing}
use Rattle.arguments.specs.declared.observed.Observed.TheVariants.{Lines}
use Rattle.arguments.proofs.given.given_observed.Goals as goal

pub returns-in-Some-clause-some : goal.returns-in-Some-clause-some
returns-in-Some-clause-some c = subst (λ (o : Option (List ℕ)). IfSome c.observed_by.result (IsObserved o)) (sym c.in-Some.ensures) c.observed_by.ensures.some

pub returns-in-Some-clause-none : goal.returns-in-Some-clause-none
returns-in-Some-clause-none c = subst (λ (o : Option (List ℕ)). c.observed_by.result ≡ None → ObservesNothing o) (sym c.in-Some.ensures) c.observed_by.ensures.none

pub returns-in-None-clause-some : goal.returns-in-None-clause-some
returns-in-None-clause-some c = subst (λ (o : Option (List ℕ)). IsObserved o Lines) (sym c.in-None.ensures) refl

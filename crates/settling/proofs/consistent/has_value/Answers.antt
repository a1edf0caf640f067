-- A value that is there, and is this one.
use Rattle.std.proofs.Common.{[], sym, ◌∙◌}
use Rattle.logic4.specs.Sameness.{same_vector-true}
use Rattle.settling.proofs.Places.{element_at}
use Rattle.settling.proofs.consistent.has_value.Goals as goal

pub returns-in-Some : goal.returns-in-Some
returns-in-Some c = λ on.
    element_at c.args.store.now c.args.register c.in-Some.old [] (sym c.value.ensures ∙ c.in-Some.is) ∙ same_vector-true c.in-Some.old c.args.value.now (sym c.eq.ensures ∙ on)

-- The register has the value then, and any other what it had.
use Rattle.std.proofs.Common.{◌≡◌, ◌∙◌, [], length, ap, sym, arith}
use Rattle.std.proofs.lemmas.Option.{slice_get_within}
use Rattle.model.specs.Expressions.{Store, value_of}
use Rattle.orders.proofs.TurnFrame.{length_set, value_other}
use Rattle.settling.proofs.Places.{element_at}
use Rattle.passing.proofs.Written.{set_at}
use Rattle.passing.proofs.combinations.give.Goals as goal

pub set-requires-clause-declared : goal.set-requires-clause-declared
set-requires-clause-declared c = slice_get_within c.args.store.now c.args.register c.in-Some.old (sym c.value.ensures ∙ c.in-Some.is)

pub set-requires-clause-width : goal.set-requires-clause-width
set-requires-clause-width c =
    let at : value_of c.args.store.now c.args.register ≡ c.in-Some.old = element_at c.args.store.now c.args.register c.in-Some.old [] (sym c.value.ensures ∙ c.in-Some.is) in
    let same : length c.args.value ≡ length c.in-Some.old = omega (arith, c.width.ensures.value, c.width-2.ensures.value, c.if-width.false) in
    same ∙ ap length (sym at)

pub returns-clause-given : goal.returns-clause-given
returns-clause-given c = λ on.
    let a = c.args.store.now in
    let r = c.args.register in
    ap (λ (b : Store). value_of b r) c.set.ensures.values ∙ set_at a r c.args.value (slice_get_within a r c.in-Some.old (sym c.value.ensures ∙ c.in-Some.is))

pub returns-clause-others : goal.returns-clause-others
returns-clause-others c = λ on r other.
    ap (λ (b : Store). value_of b r) c.set.ensures.values ∙ value_other c.args.store.now c.args.register r c.args.value other

pub returns-clause-count : goal.returns-clause-count
returns-clause-count c = ap length c.set.ensures.values ∙ length_set c.args.store.now c.args.register c.args.value

-- A write that makes no change, or one that passes.
use Rattle.std.proofs.Common.{◌≡◌, ◌∙◌, [], false, true, length, ap, sym, arith}
use Rattle.std.proofs.lemmas.Option.{slice_get_within}
use Rattle.logic4.specs.Vector.{Vector}
use Rattle.logic4.specs.Operators.{same_vector}
use Rattle.model.specs.Expressions.{value_of}
use Rattle.settling.proofs.Places.{element_at}
use Rattle.passing.specs.Moves.{passes_by}
use Rattle.passing.proofs.Written.{same_passes, change_passes, same_given, other_given}
use Rattle.passing.proofs.writes.write_tested.Goals as goal

pub set-requires-clause-declared : goal.set-requires-clause-declared
set-requires-clause-declared c = slice_get_within c.args.store.now c.args.register c.in-Some.old (sym c.value.ensures ∙ c.in-Some.is)

pub set-requires-clause-width : goal.set-requires-clause-width
set-requires-clause-width c =
    let at : value_of c.args.store.now c.args.register ≡ c.in-Some.old = element_at c.args.store.now c.args.register c.in-Some.old [] (sym c.value.ensures ∙ c.in-Some.is) in
    let same : length c.args.value ≡ length c.in-Some.old = omega (arith, c.width.ensures.value, c.width-2.ensures.value, c.if-width.false) in
    same ∙ ap length (sym at)

pub returns-then-eq-clause-passes : goal.returns-then-eq-clause-passes
returns-then-eq-clause-passes c = λ on.
    let a = c.args.store.now in
    let r = c.args.register in
    let v = c.args.value in
    let at : value_of a r ≡ c.in-Some.old = element_at a r c.in-Some.old [] (sym c.value.ensures ∙ c.in-Some.is) in
    same_passes (passes_by c.args.moves.now) (value_of a r) r v (ap (λ (old : Vector). same_vector old v) at ∙ sym c.eq.ensures ∙ c.if-eq.true)

pub returns-then-eq-clause-made : goal.returns-then-eq-clause-made
returns-then-eq-clause-made c = λ on.
    let a = c.args.store.now in
    let r = c.args.register in
    let v = c.args.value in
    let at : value_of a r ≡ c.in-Some.old = element_at a r c.in-Some.old [] (sym c.value.ensures ∙ c.in-Some.is) in
    same_given a r v (ap (λ (old : Vector). same_vector old v) at ∙ sym c.eq.ensures ∙ c.if-eq.true)

pub returns-clause-passes : goal.returns-clause-passes
returns-clause-passes c = λ on.
    let a = c.args.store.now in
    let r = c.args.register in
    let v = c.args.value in
    let at : value_of a r ≡ c.in-Some.old = element_at a r c.in-Some.old [] (sym c.value.ensures ∙ c.in-Some.is) in
    let may : passes_by c.args.moves.now r c.in-Some.old v ≡ true = sym c.allow.ensures ∙ c.if-not-allow.false in
    change_passes (passes_by c.args.moves.now) (value_of a r) r v (ap (λ (old : Vector). passes_by c.args.moves.now r old v) at ∙ may)

pub returns-clause-made : goal.returns-clause-made
returns-clause-made c = λ on.
    let a = c.args.store.now in
    let r = c.args.register in
    let v = c.args.value in
    let at : value_of a r ≡ c.in-Some.old = element_at a r c.in-Some.old [] (sym c.value.ensures ∙ c.in-Some.is) in
    c.set.ensures.values ∙ other_given a r v (ap (λ (old : Vector). same_vector old v) at ∙ sym c.eq.ensures ∙ c.if-eq.false)

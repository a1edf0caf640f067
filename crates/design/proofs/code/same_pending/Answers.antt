-- Two assignments left over are the same where their registers and their values are.
use Rattle.std.proofs.Common.{◌≡◌, ℕ, Bool, true, false, ◌&&◌, Some, refl, sym, ◌∙◌, ap}
use Rattle.std.proofs.lemmas.Bool.{eq-eqb, eqb-true}
use Rattle.std.proofs.lemmas.Option.{same_Some}
use Rattle.logic4.specs.Vector.{Vector}
use Rattle.logic4.specs.Operators.{same_vector}
use Rattle.logic4.specs.Sameness.{same_vector-self, same_vector-true}
use Rattle.design.proofs.code.same_pending.Goals as goal

both_true : (a b : Bool) → (a && b) ≡ true → (a ≡ true) × (b ≡ true)
both_true true b h = (refl, h)
both_true false b h = cc

both_back : (a b : Bool) → a ≡ true → b ≡ true → (a && b) ≡ true
both_back true b h k = k
both_back false b h k = cc

pub returns-in-Some-Some : goal.returns-in-Some-Some
returns-in-Some-Some c =
    let x : ℕ × Vector = c.in-Some-Some.a in
    let y : ℕ × Vector = c.in-Some-Some.b in (
      λ h.
          let two = both_true _ _ h in
          let registers : x.0 ≡ y.0 = eqb-true _ _ two.0 in
          let values : x.1 ≡ y.1 = same_vector-true x.1 y.1 (sym c.eq.ensures ∙ two.1) in
          let pairs : Some x ≡ Some y = λ i. Some (registers i, values i) in
          c.in-Some-Some.is-0 ∙ pairs ∙ sym c.in-Some-Some.is-1,
      λ h.
          let pairs : Some x ≡ Some y = sym c.in-Some-Some.is-0 ∙ h ∙ c.in-Some-Some.is-1 in
          let same : x ≡ y = same_Some x y pairs in
          both_back _ _ (eq-eqb _ _ (ap (λ p. p.0) same)) (c.eq.ensures ∙ ap (λ p. same_vector p.1 y.1) same ∙ same_vector-self y.1),
    )

use Rattle.std.proofs.Common.{◌≡◌, ℕ, arith, sym, subst, inl, inr}
use Rattle.std.proofs.lemmas.Bool.{cases_lt}
use Rattle.explore.specs.Links.{IsUnmarked}
use Rattle.explore.proofs.endless.are_ends_marked.Goals as goal

pub loop-number-preserved : goal.loop-number-preserved
loop-number-preserved c k less none = elim (cases_lt k c.loop-number.number) [
  | inl low ↦ c.loop-number.invariant k low none
  | inr high ↦
      let same : k ≡ c.loop-number.number = omega (arith, less, high) in
      subst (λ (n : ℕ). IsUnmarked c.args.links.now.may_end.items n) (sym same) (c.has_mark.ensures c.if-not-has_mark.false (subst (λ (n : ℕ). IsUnmarked c.args.marks.now n) same none))
]

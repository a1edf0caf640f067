-- The last write of the register, or none.
use Rattle.std.proofs.Common.{◌≡◌, ◌-◌, ℕ, suc, false, map, drop, sym, subst, ◌∙◌, arith}
use Rattle.model.specs.Turns.{contains}
use Rattle.noted.proofs.Behind.{value_last, value_kept, no_value}
use Rattle.noted.proofs.changes.value_behind.Goals as goal

pub returns-then-write-register : goal.returns-then-write-register
returns-then-write-register c =
    let earlier = c.args.earlier.now in
    let k = c.loop-place.place - 1 in
    let next : c.loop-place.place ≡ suc k = omega arith in
    let none = subst (λ (n : ℕ). contains (map (λ u. u.0) (drop n earlier)) c.args.register ≡ false) next c.loop-place.invariant in
    sym (value_last c.args.store.now earlier k c.args.register c.index-earlier-place.result (omega arith) c.index-earlier-place.is c.if-write-register.true c.requires none)

pub unreachable-requires : goal.unreachable-requires
unreachable-requires c = no_value c.args.store.now c.args.register c.requires (sym c.value.ensures ∙ c.in-None.is)

pub returns : goal.returns
returns c =
    let earlier = c.args.earlier.now in
    let first : c.loop-place.place ≡ 0 = omega (arith, c.loop-place-test.false) in
    let none = subst (λ (n : ℕ). contains (map (λ u. u.0) (drop n earlier)) c.args.register ≡ false) first c.loop-place.invariant in
    sym (value_kept c.args.store.now earlier c.args.register c.in-Some.value none (sym c.value.ensures ∙ c.in-Some.is))

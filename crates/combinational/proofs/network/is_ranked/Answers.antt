-- One process more.
use Rattle.std.proofs.Common.{rules, ◌≡◌, ℕ, ⊎_elim, Some, refl, subst, sym, ap, ◌∙◌, arith}
use Rattle.std.specs.Prelude.{slice_get}
use Rattle.combinational.specs.Found.{AreRanked}
use Rattle.combinational.proofs.Places.{get_within, last_or}
use Rattle.combinational.proofs.network.is_ranked.Goals as goal

pub loop-at-preserved : goal.loop-at-preserved
loop-at-preserved c =
    λ q other below differ there.
    let xs = c.args.network.now.logics.items in
    let p = c.args.process in
    let apart : (k : ℕ) → q ≡ k → k ≡ c.loop-at.at → AreRanked c.args.network.now.ranks.items p q c.args.one.now other =
    λ k same at.
    let here : q ≡ c.loop-at.at = same ∙ at in
    subst (λ n. AreRanked c.args.network.now.ranks.items p n c.args.one.now other) (sym here)
    (c.is_apart_at.ensures (search rules) other (λ is. differ (is ∙ sym here)) (ap (λ n. slice_get xs n) (sym here) ∙ there)) in
    ⊎_elim (λ same. apart c.loop-at.at same refl) (λ less. c.loop-at.invariant q other less differ there) (last_or q c.loop-at.at below)

pub returns : goal.returns
returns c =
    λ yes q other differ there.
    c.loop-at.invariant q other (omega (arith, get_within c.args.network.now.logics.items q (Some other) there, c.loop-at-test.false, c.len-at-end.ensures)) differ there

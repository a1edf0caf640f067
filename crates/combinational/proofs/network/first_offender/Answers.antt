-- One process more.
use Rattle.std.proofs.Common.{rules, ⊎_elim, Some, subst, sym, ap, ◌∙◌, arith}
use Rattle.std.specs.Prelude.{slice_get}
use Rattle.combinational.specs.Found.{AreRanked}
use Rattle.combinational.proofs.Places.{get_within, last_or}
use Rattle.combinational.proofs.network.first_offender.Goals as goal

pub loop-at-preserved : goal.loop-at-preserved
loop-at-preserved c =
    λ p q one other below differ here there.
    let xs = c.args.network.now.logics.items in
    ⊎_elim
    (λ same. subst (λ n. AreRanked c.args.network.now.ranks.items n q one other) (sym same)
    (c.is_apart_from_all.ensures (search rules) q one other (λ is. differ (same ∙ is)) (ap (λ n. slice_get xs n) (sym same) ∙ here) there))
    (λ less. c.loop-at.invariant p q one other less differ here there) (last_or p c.loop-at.at below)

pub returns-clause-apart : goal.returns-clause-apart
returns-clause-apart c =
    λ none p q one other differ here there.
    c.loop-at.invariant p q one other (omega (arith, get_within c.args.network.now.logics.items p (Some one) here, c.loop-at-test.false, c.len-at-end.ensures)) differ here there

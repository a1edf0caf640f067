-- All writes leave their registers.
use Rattle.std.proofs.Common.{arith, subst, sym, ⊎_elim}
use Rattle.combinational.proofs.Places.{last_or}
use Rattle.settling.proofs.Leaving.{LeavesAt, leaves_store}
use Rattle.settling.proofs.consistent.leaves_values.Goals as goal

pub loop-place-preserved : goal.loop-place-preserved
loop-place-preserved c =
    λ k below.
    ⊎_elim (λ same. subst (LeavesAt c.args.store.now c.args.writes.now) (sym same) (c.leaves_at.ensures c.if-not-leaves_at.false))
    (λ less. c.loop-place.invariant k less) (last_or k c.loop-place.place below)

pub returns : goal.returns
returns c = λ on. leaves_store c.args.store.now c.args.writes.now (λ k within. c.loop-place.invariant k (omega (arith, within)))

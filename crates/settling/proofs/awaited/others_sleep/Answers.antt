-- Each other process sleeps.
use Rattle.std.proofs.Common.{◌≡◌, ℕ, false, get_or, arith, subst, sym, ⊎_elim}
use Rattle.model.specs.Turns.{contains}
use Rattle.regions.specs.ProcessWaking.{triggers_at}
use Rattle.settling.specs.Waiting.{WaitsForNone}
use Rattle.combinational.proofs.Places.{last_or}
use Rattle.settling.proofs.awaited.others_sleep.Goals as goal

pub loop-at-preserved : goal.loop-at-preserved
loop-at-preserved c =
    λ k d below.
    ⊎_elim
    (λ same. subst (λ (n : ℕ). contains c.args.members.now n ≡ false → WaitsForNone (triggers_at c.args.controls.now (get_or c.args.processes.now n d).waits) c.args.registers.now) (sym same)
    (c.sleeps_at.ensures c.if-not-sleeps_at.false d))
    (λ less. c.loop-at.invariant k d less) (last_or k c.loop-at.at below)

pub returns : goal.returns
returns c = λ on q d within none. c.loop-at.invariant q d (omega (arith, within)) none

-- One process more, where it settles.
use Rattle.std.proofs.Common.{◌≡◌, ◌∙◌, ℕ, true, List, get_or, ap, sym, subst}
use Rattle.model.specs.Turns.{contains}
use Rattle.settling.specs.Settled.{HasSettledSince}
use Rattle.settling.proofs.Listed.{all_more}
use Rattle.settling.proofs.between.members_settling.Goals as goal
use Rattle.settling.proofs.between.members_settling.Goals.{then-branch+in_ok-push, else-branch}

pub loop-process-preserved : goal.loop-process-preserved
loop-process-preserved c =
    let Has = HasSettledSince c.args.begin.now c.args.machine.now c.args.network.now in
    let Have : List ℕ → Type 0 = λ l. (p : ℕ) → contains l p ≡ true → Has p in
    let p = get_or c.args.members.now c.loop-process.process-index 0 in
    elim c.if-branch.branch [
      | then-branch+in_ok-push w ↦
          let grown = ap (λ v. v.items) w.settled-is ∙ w.in_ok-push.ensures.items in
          subst Have (sym grown) (all_more Has c.loop-process.settled.items p c.loop-process.invariant (c.in_ok-settles.ensures w.if-branch.true))
      | else-branch w ↦ subst Have (sym (ap (λ v. v.items) w.settled-is)) c.loop-process.invariant
    ]

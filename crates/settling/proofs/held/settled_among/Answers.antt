-- One process more, where it is pending or settled.
use Rattle.std.proofs.Common.{◌∙◌, get_or, ap, sym, subst}
use Rattle.regions.specs.Machine.{state_at}
use Rattle.settling.specs.Settling.{IsPendingOrSettled, ArePendingOrSettled}
use Rattle.settling.proofs.Listed.{all_more}
use Rattle.settling.proofs.held.settled_among.Goals as goal
use Rattle.settling.proofs.held.settled_among.Goals.{then-branch+in_ok-push, else-branch}

pub loop-process-preserved : goal.loop-process-preserved
loop-process-preserved c =
    let m = c.args.machine.now in
    let Are = ArePendingOrSettled m.code (state_at m) c.args.network.now in
    let p = get_or c.args.among.now c.loop-process.process-index 0 in
    elim c.if-branch.branch [
      | then-branch+in_ok-push w ↦
          let grown = ap (λ v. v.items) w.settled-is ∙ w.in_ok-push.ensures.items in
          subst Are (sym grown) (all_more (IsPendingOrSettled m.code (state_at m) c.args.network.now) c.loop-process.settled.items p c.loop-process.invariant (c.in_ok-is_pending_or_settled.ensures w.if-branch.true))
      | else-branch w ↦ subst Are (sym (ap (λ v. v.items) w.settled-is)) c.loop-process.invariant
    ]

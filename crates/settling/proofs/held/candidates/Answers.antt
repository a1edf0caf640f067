-- One process more, where it is a member.
use Rattle.std.proofs.Common.{◌≡◌, ◌∙◌, ◌<◌, ℕ, true, List, get_or, length, ap, sym, subst, arith}
use Rattle.model.specs.Turns.{contains}
use Rattle.regions.specs.Machine.{state_at}
use Rattle.settling.specs.Settling.{IsMember, AreMembers, AreSomeOf}
use Rattle.settling.proofs.Listed.{there_at, all_more}
use Rattle.settling.proofs.held.candidates.Goals as goal
use Rattle.settling.proofs.held.candidates.Goals.{then-is_candidate+in_ok-push, else-is_candidate}

pub loop-process-preserved : goal.loop-process-preserved
loop-process-preserved c =
    let m = c.args.machine.now in
    let Are = AreMembers m.code (state_at m) c.args.network.now in
    let among = c.args.among.now in
    let i = c.loop-process.process-index in
    let p = get_or among i 0 in
    let within : i < length among = omega arith in
    let before = c.loop-process.invariant in
    elim c.if-is_candidate.branch [
      | then-is_candidate+in_ok-push w ↦
          let grown = ap (λ v. v.items) w.members-is ∙ w.in_ok-push.ensures.items in
          record {
            each = subst Are (sym grown) (all_more (IsMember m.code (state_at m) c.args.network.now) c.loop-process.members.items p before.each (c.is_candidate.ensures w.if-is_candidate.true));
            subset = subst (λ (l : List ℕ). AreSomeOf l among) (sym grown) (all_more (λ (q : ℕ). contains among q ≡ true) c.loop-process.members.items p before.subset (there_at among i 0 within));
          }
      | else-is_candidate w ↦
          let same = ap (λ v. v.items) w.members-is in
          record { each = subst Are (sym same) before.each; subset = subst (λ (l : List ℕ). AreSomeOf l among) (sym same) before.subset }
    ]

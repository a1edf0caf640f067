-- One member more, where nobody else waits for its outputs.
use Rattle.std.proofs.Common.{◌≡◌, ◌∙◌, ◌<◌, ℕ, true, List, get_or, length, ap, sym, subst, arith}
use Rattle.model.specs.Turns.{contains}
use Rattle.settling.specs.Settling.{AreSomeOf}
use Rattle.settling.proofs.Listed.{there_at, all_more}
use Rattle.settling.proofs.held.unawaited.Goals as goal
use Rattle.settling.proofs.held.unawaited.Goals.{then-others_let+in_ok-push, else-others_let}

pub loop-member-preserved : goal.loop-member-preserved
loop-member-preserved c =
    let members = c.args.members.now in
    let i = c.loop-member.member-index in
    let within : i < length members = omega arith in
    elim c.if-others_let.branch [
      | then-others_let+in_ok-push w ↦
          let grown = ap (λ v. v.items) w.fewer-is ∙ w.in_ok-push.ensures.items in
          subst (λ (l : List ℕ). AreSomeOf l members) (sym grown)
          (all_more (λ (q : ℕ). contains members q ≡ true) c.loop-member.fewer.items (get_or members i 0) c.loop-member.invariant (there_at members i 0 within))
      | else-others_let w ↦ subst (λ (l : List ℕ). AreSomeOf l members) (sym (ap (λ v. v.items) w.fewer-is)) c.loop-member.invariant
    ]

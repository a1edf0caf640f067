-- Each update that is appended is one more of the chain, the last one too, which makes evaluations active.
use Rattle.std.proofs.Common.{◌∙◌, ℕ, All, arith, refl, subst, sym}
use Rattle.std.proofs.lemmas.Grind.{common_steps}
use Rattle.std.proofs.lemmas.List.Elements.{All-push}
use Rattle.commitgate.specs.GateAnswers.{IsUpdated}
use Rattle.commitgate.specs.Batches.{AreUpdated, AreUpdatedTo, IsQuiet}
use Rattle.commitgate.proofs.Batches.{updated_more, told_more}
use Rattle.commitgate.proofs.state.GateState.apply_updates.Goals as goal

pub loop-self-preserved : goal.loop-self-preserved
loop-self-preserved g c =
    let n = g.K.Naming.named in
    let at = c.loop-self in
    let grant = c.in-Accepted.grant in
    let items = c.push_reserved.ensures.items in
    let one = subst (λ (w : ℕ). IsUpdated n.code n.limits w at.self grant.position grant.entry grant.tickets.items c.update.new.self) at.invariant.worker c.in-Accepted.ensures.state in
    record {
      state = subst (λ gs. AreUpdated n.code n.limits c.args.seat.now.worker c.args.self.now gs c.update.new.self) (sym items)
          (updated_more n.code n.limits c.args.seat.now.worker c.args.self.now at.self c.update.new.self at.grants.items grant at.invariant.state one);
      seat = subst (λ gs. AreUpdatedTo n c.args.seat.now gs c.update.new.seat) (sym items)
          (told_more n c.args.seat.now at.seat c.update.new.seat at.grants.items grant at.invariant.seat c.in-Accepted.ensures.seat);
      quiet = subst (All IsQuiet) (sym items) (All-push IsQuiet at.grants.items grant at.invariant.quiet (grind (arith, common_steps, c.is_empty-is_quiet.ensures, c.if-not-is_quiet.false)));
      worker = c.in-Accepted.ensures.seat.appended.follows.worker ∙ at.invariant.worker;
      capacity = c.push_reserved.ensures.capacity ∙ at.invariant.capacity;
      synchronized = λ _. c.update.ensures.seen;
    }

pub returns-then-not-is_quiet-clause-state : goal.returns-then-not-is_quiet-clause-state
returns-then-not-is_quiet-clause-state g c =
    let n = g.K.Naming.named in
    let at = c.loop-self in
    let grant = c.in-Accepted.grant in
    let one = subst (λ (w : ℕ). IsUpdated n.code n.limits w at.self grant.position grant.entry grant.tickets.items c.update.new.self) at.invariant.worker c.in-Accepted.ensures.state in (
      c.update.new.self,
      subst (λ gs. AreUpdated n.code n.limits c.args.seat.now.worker c.args.self.now gs c.update.new.self) (sym c.push_reserved.ensures.items)
          (updated_more n.code n.limits c.args.seat.now.worker c.args.self.now at.self c.update.new.self at.grants.items grant at.invariant.state one),
      refl,
    )

pub returns-then-not-is_quiet-clause-seat : goal.returns-then-not-is_quiet-clause-seat
returns-then-not-is_quiet-clause-seat g c =
    let n = g.K.Naming.named in
    let at = c.loop-self in (
      c.update.new.seat,
      subst (λ gs. AreUpdatedTo n c.args.seat.now gs c.update.new.seat) (sym c.push_reserved.ensures.items)
          (told_more n c.args.seat.now at.seat c.update.new.seat at.grants.items c.in-Accepted.grant at.invariant.seat c.in-Accepted.ensures.seat),
      refl,
    )

pub returns-then-not-is_quiet-clause-tickets : goal.returns-then-not-is_quiet-clause-tickets
returns-then-not-is_quiet-clause-tickets g c =
    let at = c.loop-self in
    (at.grants.items, c.in-Accepted.grant, c.push_reserved.ensures.items, at.invariant.quiet, grind (arith, common_steps, c.is_empty-is_quiet.ensures, c.if-not-is_quiet.true))

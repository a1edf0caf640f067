-- No update is active where none is the first. Each answer says what the seat is told.
use Rattle.std.proofs.Common.{◌≡◌, ◌∙◌, ap, refl, sym, subst, Some, None, [], ◌∷◌, ◌++◌, length, inr, if◌then◌else◌}
use Rattle.model.specs.declared.end.Why.TheVariants.{Entries, Finish}
use Rattle.model.specs.declared.entry.Entry.TheVariants.{Update}
use Rattle.model.specs.Runs.{after, least}
use Rattle.design.specs.Compiled.{design_of}
use Rattle.runstate.specs.declared.ledger.Item.TheVariants.{Ended}
use Rattle.runstate.specs.Ledger.{entries_of}
use Rattle.runstate.specs.GateState.{GateState, state_in}
use Rattle.regcells.specs.Meetings.{HaveGrown}
use Rattle.commitgate.specs.Seats.{SeatView}
use Rattle.commitgate.specs.GateAnswers.{HasNoUpdate, IsGranted}
use Rattle.runstate.specs.SeatMeetings.{updated_register, HasMetLog}
use Rattle.commitgate.specs.SeatAnswers.{CommitCauses}
use Rattle.regions.specs.Find.{update_numbers}
use Rattle.runstate.proofs.Beginnings.{prefix_trans}
use Rattle.commitgate.proofs.Meetings.{rises_self}
use Rattle.commitgate.proofs.Waits.{none_least}
use Rattle.commitgate.proofs.Tellings.{after_ledger, tell_refused, tell_stopped, tell_ended, tell_appended, no_updates}
use Rattle.commitgate.proofs.Validating.{met_update}
use Rattle.commitgate.proofs.state.GateState.update.Goals as goal

pub returns-in-Some-clause-seat : goal.returns-in-Some-clause-seat
returns-in-Some-clause-seat g c =
    tell_stopped g.K.Naming.named c.args.seat.now c.args.self.now c.invariant_holds.ensures.guarded c.invariant_holds.ensures.kept c.synchronize_unless.ensures.later CommitCauses c.in-Some.why c.synchronize_unless.new.seat c.synchronize_unless.ensures.seat
    (ap (λ (h : GateState). h.end) (sym c.synchronize_unless.ensures.same) ∙ sym c.ended.ensures ∙ c.in-Some.is)

pub returns-in_default-first_update-clause-state : goal.returns-in_default-first_update-clause-state
returns-in_default-first_update-clause-state g c =
    let running = ap (λ (h : GateState). h.end) (sym c.synchronize_unless.ensures.same) ∙ (sym c.ended.ensures ∙ c.in_default.is) in
    let none = none_least (update_numbers c.self.inside.run_state.regions.active) (sym c.first_update.ensures.least ∙ c.in_default-first_update.is) in
    (running, subst (λ (h : GateState). HasNoUpdate h.core) (c.self.view_is ∙ c.synchronize_unless.ensures.same) none, c.synchronize_unless.ensures.same)

pub returns-in_default-first_update-clause-seat : goal.returns-in_default-first_update-clause-seat
returns-in_default-first_update-clause-seat g c =
    let n = g.K.Naming.named in
    let old = c.args.seat.now in
    let held = c.args.self.now in
    let running = ap (λ (h : GateState). h.end) (sym c.synchronize_unless.ensures.same) ∙ (sym c.ended.ensures ∙ c.in_default.is) in
    let none = none_least (update_numbers c.self.inside.run_state.regions.active) (sym c.first_update.ensures.least ∙ c.in_default-first_update.is) in (
      tell_refused n old held c.invariant_holds.ensures.guarded c.invariant_holds.ensures.kept c.synchronize_unless.ensures.later c.synchronize_unless.new.seat old.fresh c.synchronize_unless.ensures.seat (rises_self old.fresh) running,
      (
        state_in n.code held,
        ap (λ (v : SeatView). after (design_of n.code) (entries_of v.seen)) c.synchronize_unless.ensures.seat ∙ after_ledger n held c.invariant_holds.ensures.guarded c.invariant_holds.ensures.kept,
        no_updates (state_in n.code held) (subst (λ (h : GateState). HasNoUpdate h.core) (c.self.view_is ∙ c.synchronize_unless.ensures.same) none),
      ),
    )

pub returns-then-is_full-clause-seat : goal.returns-then-is_full-clause-seat
returns-then-is_full-clause-seat g c =
    let old = c.args.seat.now in
    let synchronize = c.synchronize_unless.ensures in
    let stop = c.stop.ensures in
    let ledger : c.stop.new.self.ledger ≡ c.args.self.now.ledger ++ (c.synchronize_unless.new.seat.worker, Ended Entries) ∷ [] =
    ap (λ (h : GateState). h.ledger) stop.state ∙ ap (λ (h : GateState). h.ledger ++ (c.synchronize_unless.new.seat.worker, Ended Entries) ∷ []) synchronize.same in
    let seen : c.stop.new.seat.seen ≡ c.stop.new.self.ledger = ap (λ (v : SeatView). v.seen) stop.seat in
    tell_ended g.K.Naming.named CommitCauses old c.stop.new.seat Entries c.stop.new.self c.invariant_holds-then-is_full.ensures.guarded c.invariant_holds-then-is_full.ensures.kept
    (record {
      worker = ap (λ (v : SeatView). v.worker) stop.seat ∙ ap (λ (v : SeatView). v.worker) synchronize.seat;
      later = prefix_trans old.seen c.args.self.now.ledger c.stop.new.seat.seen synchronize.later ((c.synchronize_unless.new.seat.worker, Ended Entries) ∷ [], sym (seen ∙ ledger));
      rises = subst (λ f. HaveGrown old.fresh f) (sym (ap (λ (v : SeatView). v.fresh) stop.seat ∙ ap (λ (v : SeatView). v.fresh) synchronize.seat)) (rises_self old.fresh);
    })
    (ap (λ (v : SeatView). v.positions) stop.seat ∙ ap (λ (v : SeatView). v.positions) synchronize.seat)
    seen
    (ap (λ (h : GateState). h.end) stop.state)
    (inr (ap (λ (v : SeatView). v.stored) stop.seat, refl))

pub returns-in-Ok-clause-seat : goal.returns-in-Ok-clause-seat
returns-in-Ok-clause-seat g c =
    let n = g.K.Naming.named in
    let held = c.args.self.now in
    let old = c.args.seat.now in
    let new = c.append.new.seat in
    let synchronize = c.synchronize_unless.ensures in
    let number = c.in-Some-first_update.number in
    let worker : c.synchronize_unless.new.seat.worker ≡ old.worker = ap (λ (v : SeatView). v.worker) synchronize.seat in
    let seat = c.in-Ok.ensures.seat in
    let granted = subst (λ (h : GateState). IsGranted n.code old.worker h (Update number) c.in-Ok.grant.position c.in-Ok.grant.entry c.in-Ok.grant.tickets.items c.append.new.self) synchronize.same
    (subst (λ k. IsGranted n.code k c.synchronize_unless.new.self (Update number) c.in-Ok.grant.position c.in-Ok.grant.entry c.in-Ok.grant.tickets.items c.append.new.self) worker c.in-Ok.ensures.ok) in
    let seen : new.seen ≡ c.append.new.self.ledger = ap (λ (v : SeatView). v.seen) seat in
    record {
      number = number;
      appended = tell_appended n old held c.invariant_holds.ensures.guarded c.invariant_holds.ensures.kept synchronize.later c.append.new.self c.invariant_holds-in-Ok.ensures.guarded c.invariant_holds-in-Ok.ensures.kept (Update number) c.in-Ok.grant.position c.in-Ok.grant.entry c.in-Ok.grant.tickets.items new
          granted
          (ap (λ (v : SeatView). v.worker) seat ∙ worker)
          seen
          (ap (λ (v : SeatView). v.positions) seat ∙ ap (λ (v : SeatView). v.positions ++ c.in-Ok.grant.position ∷ []) synchronize.seat)
          (ap (λ (v : SeatView). v.stored) seat ∙ ap (λ (v : SeatView). if (state_in n.code c.append.new.self).finished then Some Finish else v.stored) synchronize.seat)
          (subst (λ f. HaveGrown f new.fresh) (ap (λ (v : SeatView). v.fresh) synchronize.seat) c.in-Ok.ensures.rises)
          (met_update n held c.append.new.self number new.seen new.fresh (length n.cells) c.invariant_holds.ensures.widths c.invariant_holds-in-Ok.ensures.kept seen
          (subst (λ (h : GateState). least (update_numbers h.core.active) ≡ Some number) (c.self.view_is ∙ synchronize.same) (sym c.first_update.ensures.least ∙ c.in-Some-first_update.is))
          (subst (λ (h : GateState). HasMetLog c.append.new.self.histories new.fresh (length n.cells) (updated_register h.core.active (Update number)) None) synchronize.same c.in-Ok.ensures.met));
    }

pub returns-in-Some-clause-seen : goal.returns-in-Some-clause-seen
returns-in-Some-clause-seen g c = ap (λ (v : SeatView). v.seen) c.synchronize_unless.ensures.seat ∙ ap (λ (h : GateState). h.ledger) (sym c.synchronize_unless.ensures.same)

pub returns-in_default-first_update-clause-seen : goal.returns-in_default-first_update-clause-seen
returns-in_default-first_update-clause-seen g c = ap (λ (v : SeatView). v.seen) c.synchronize_unless.ensures.seat ∙ ap (λ (h : GateState). h.ledger) (sym c.synchronize_unless.ensures.same)

pub returns-then-is_full-clause-seen : goal.returns-then-is_full-clause-seen
returns-then-is_full-clause-seen g c = ap (λ (v : SeatView). v.seen) c.stop.ensures.seat

pub returns-in-Ok-clause-seen : goal.returns-in-Ok-clause-seen
returns-in-Ok-clause-seen g c = ap (λ (v : SeatView). v.seen) c.in-Ok.ensures.seat

pub returns-in-Err-clause-seen : goal.returns-in-Err-clause-seen
returns-in-Err-clause-seen g c =
    ap (λ (v : SeatView). v.seen) (c.in-Err.ensures.err.1 ∙ c.synchronize_unless.ensures.seat) ∙ ap (λ (h : GateState). h.ledger) (sym (c.in-Err.ensures.err.0 ∙ c.synchronize_unless.ensures.same))

-- A full journal and a time past the limit stop the run at rest; what the seat is told.
use Rattle.std.proofs.Common.{◌≡◌, ◌∙◌, ℕ, ap, refl, sym, subst, inl, inr, true, false, Some, ◌++◌, ◌∷◌, [], if◌then◌else◌}
use Rattle.model.specs.declared.end.Limits.{Limits}
use Rattle.model.specs.declared.end.Why.TheVariants.{Entries, Finish}
use Rattle.model.specs.Runs.{has_any, is_quiet, IsTimely}
use Rattle.runstate.specs.GateState.{GateState, state_in}
use Rattle.regcells.specs.Meetings.{HaveGrown}
use Rattle.commitgate.specs.Seats.{SeatView}
use Rattle.commitgate.specs.GateAnswers.{IsBetweenRegions, FullRest, IsRestStopped, IsGranted}
use Rattle.commitgate.specs.DueRegions.{IsPassed}
use Rattle.commitgate.specs.SeatAnswers.{RestCauses}
use Rattle.commitgate.proofs.Rests.{due_stops}
use Rattle.commitgate.proofs.Resting.{tell_quiet, tell_stop, tell_busy, due_is_change, met_change, passed_cause}
use Rattle.commitgate.proofs.Tellings.{tell_stopped, tell_appended}
use Rattle.commitgate.proofs.state.GateState.change_region.Goals as goal

pub returns-then-is_full-clause-state : goal.returns-then-is_full-clause-state
returns-then-is_full-clause-state g c =
    let n = g.K.Naming.named in
    let mid = c.synchronize.new.self in
    let idle : has_any mid.core.active ≡ false = ap (λ (h : GateState). has_any h.core.active) (sym c.self.view_is) ∙ sym c.if-is_active.ensures in
    let rests : IsBetweenRegions n.code mid = record { running = c.in-Running.ensures.0; idle = idle; left = c.in-Running.ensures.1 } in
    subst (λ (h : GateState). IsRestStopped n.code n.limits c.args.seat.now.worker h Entries c.stop.new.self) c.synchronize.ensures.same
    (subst (λ (k : ℕ). IsRestStopped n.code n.limits k mid Entries c.stop.new.self) (ap (λ (v : SeatView). v.worker) c.synchronize.ensures.seat)
    (inr (rests, FullRest (c.is_full.ensures.full.0 c.if-is_full.true), c.stop.ensures.state)))

pub returns-in-Some-clause-state : goal.returns-in-Some-clause-state
returns-in-Some-clause-state g c =
    let n = g.K.Naming.named in
    let mid = c.synchronize.new.self in
    let idle : has_any mid.core.active ≡ false = ap (λ (h : GateState). has_any h.core.active) (sym c.self.view_is) ∙ sym c.if-is_active.ensures in
    let rests : IsBetweenRegions n.code mid = record { running = c.in-Running.ensures.0; idle = idle; left = c.in-Running.ensures.1 } in
    let passed = subst (λ (l : Limits). IsPassed l c.due_change-change.result c.in-Some.why) c.self.invariant.limits_is c.in-Some.ensures in
    let stops = due_stops n.code n.limits mid c.due_change-change.result c.in-Some.why c.if-is_full.ensures.room c.due_change-change.ensures passed in
    subst (λ (h : GateState). IsRestStopped n.code n.limits c.args.seat.now.worker h c.in-Some.why c.stop-in-Some.new.self) c.synchronize.ensures.same
    (subst (λ (k : ℕ). IsRestStopped n.code n.limits k mid c.in-Some.why c.stop-in-Some.new.self) (ap (λ (v : SeatView). v.worker) c.synchronize.ensures.seat)
    (inr (rests, stops, c.stop-in-Some.ensures.state)))

pub returns-in-Stopped-clause-seat : goal.returns-in-Stopped-clause-seat
returns-in-Stopped-clause-seat g c awake =
    tell_stopped g.K.Naming.named c.args.seat.now c.args.self.now c.invariant_holds.ensures.guarded c.invariant_holds.ensures.kept c.synchronize.ensures.later RestCauses c.in-Stopped.why c.synchronize.new.seat c.synchronize.ensures.seat
    (ap (λ (h : GateState). h.end) (sym c.synchronize.ensures.same) ∙ c.in-Stopped.ensures)

pub returns-in-Quiet-clause-seat : goal.returns-in-Quiet-clause-seat
returns-in-Quiet-clause-seat g c awake =
    tell_quiet g.K.Naming.named c.args.seat.now c.args.self.now c.invariant_holds.ensures.guarded c.invariant_holds.ensures.kept c.synchronize.ensures.later c.synchronize.new.seat c.synchronize.ensures.seat
    (ap (λ (h : GateState). h.end) (sym c.synchronize.ensures.same) ∙ c.in-Quiet.ensures.0)
    (ap (λ (h : GateState). is_quiet (state_in g.K.Naming.named.code h)) (sym c.synchronize.ensures.same) ∙ c.in-Quiet.ensures.1)

pub returns-then-is_active-clause-seat : goal.returns-then-is_active-clause-seat
returns-then-is_active-clause-seat g c awake =
    let same = c.synchronize.ensures.same in
    let active : has_any c.args.self.now.core.active ≡ true = ap (λ (h : GateState). has_any h.core.active) (sym (c.self.view_is ∙ same)) ∙ sym c.if-is_active.ensures in
    tell_busy g.K.Naming.named c.args.seat.now c.args.self.now c.invariant_holds.ensures.guarded c.invariant_holds.ensures.kept c.synchronize.ensures.later c.synchronize.new.seat c.synchronize.ensures.seat
    (ap (λ (h : GateState). h.end) (sym same) ∙ c.in-Running.ensures.0) active awake

pub returns-then-is_full-clause-seat : goal.returns-then-is_full-clause-seat
returns-then-is_full-clause-seat g c awake =
    tell_stop g.K.Naming.named RestCauses c.args.seat.now c.synchronize.new.seat c.stop.new.seat Entries c.args.self.now c.synchronize.new.self c.stop.new.self
    c.invariant_holds-then-is_full.ensures.guarded c.invariant_holds-then-is_full.ensures.kept c.synchronize.ensures.later c.synchronize.ensures.same c.synchronize.ensures.seat c.stop.ensures.state c.stop.ensures.seat (inl refl)

pub returns-in-Some-clause-seat : goal.returns-in-Some-clause-seat
returns-in-Some-clause-seat g c awake =
    let n = g.K.Naming.named in
    let passed = subst (λ (l : Limits). IsPassed l c.due_change-change.result c.in-Some.why) c.self.invariant.limits_is c.in-Some.ensures in
    tell_stop n RestCauses c.args.seat.now c.synchronize.new.seat c.stop-in-Some.new.seat c.in-Some.why c.args.self.now c.synchronize.new.self c.stop-in-Some.new.self
    c.invariant_holds-in-Some.ensures.guarded c.invariant_holds-in-Some.ensures.kept c.synchronize.ensures.later c.synchronize.ensures.same c.synchronize.ensures.seat c.stop-in-Some.ensures.state c.stop-in-Some.ensures.seat
    (passed_cause n.limits c.due_change-change.result c.in-Some.why passed)

pub append-requires-clause-timely : goal.append-requires-clause-timely
append-requires-clause-timely g c = subst (λ (l : Limits). IsTimely l c.due_change-change.result) c.self.invariant.limits_is c.in_default.ensures

pub returns-in-Ok-clause-seat : goal.returns-in-Ok-clause-seat
returns-in-Ok-clause-seat g c awake =
    let n = g.K.Naming.named in
    let held = c.args.self.now in
    let old = c.args.seat.now in
    let new = c.append.new.seat in
    let synchronize = c.synchronize.ensures in
    let change = c.due_change-change.result in
    let worker : c.synchronize.new.seat.worker ≡ old.worker = ap (λ (v : SeatView). v.worker) synchronize.seat in
    let seat = c.in-Ok.ensures.seat in
    let granted = subst (λ (h : GateState). IsGranted n.code old.worker h change c.in-Ok.grant.position c.in-Ok.grant.entry c.in-Ok.grant.tickets.items c.append.new.self) synchronize.same
    (subst (λ k. IsGranted n.code k c.synchronize.new.self change c.in-Ok.grant.position c.in-Ok.grant.entry c.in-Ok.grant.tickets.items c.append.new.self) worker c.in-Ok.ensures.ok) in
    let seen : new.seen ≡ c.append.new.self.ledger = ap (λ (v : SeatView). v.seen) seat in
    let is_change = due_is_change (state_in n.code c.synchronize.new.self) change c.due_change-change.ensures in
    record {
      change = change;
      is_change = is_change;
      timely = subst (λ (l : Limits). IsTimely l change) c.self.invariant.limits_is c.in_default.ensures;
      appended = tell_appended n old held c.invariant_holds.ensures.guarded c.invariant_holds.ensures.kept synchronize.later c.append.new.self c.invariant_holds-in-Ok.ensures.guarded c.invariant_holds-in-Ok.ensures.kept change c.in-Ok.grant.position c.in-Ok.grant.entry c.in-Ok.grant.tickets.items new
          granted
          (ap (λ (v : SeatView). v.worker) seat ∙ worker)
          seen
          (ap (λ (v : SeatView). v.positions) seat ∙ ap (λ (v : SeatView). v.positions ++ c.in-Ok.grant.position ∷ []) synchronize.seat)
          (ap (λ (v : SeatView). v.stored) seat ∙ ap (λ (v : SeatView). if (state_in n.code c.append.new.self).finished then Some Finish else v.stored) synchronize.seat)
          (subst (λ f. HaveGrown f new.fresh) (ap (λ (v : SeatView). v.fresh) synchronize.seat) c.in-Ok.ensures.rises)
          (met_change n (state_in n.code held) change new.seen new.fresh is_change);
    }

-- The evaluation has no short turn: the run may end so.
use Rattle.std.proofs.Common.{◌≡◌, ℕ, length, [], ◌∷◌, ◌++◌, refl, sym, ap, ◌∙◌, subst, inr}
use Rattle.model.specs.declared.end.Why.TheVariants.{TooLong}
use Rattle.model.specs.declared.end.End.TheVariants.{Stopped}
use Rattle.model.specs.Runs.{EndsIn}
use Rattle.design.specs.Compiled.{design_of}
use Rattle.runstate.specs.declared.ledger.Item.TheVariants.{Ended}
use Rattle.runstate.specs.Ledger.{Ledger}
use Rattle.runstate.specs.GateState.{GateState, state_in}
use Rattle.regcells.specs.Meetings.{HaveGrown}
use Rattle.commitgate.specs.Seats.{SeatView}
use Rattle.commitgate.proofs.AtLock.{long_ends}
use Rattle.commitgate.proofs.Guards.{unfinished}
use Rattle.commitgate.proofs.Meetings.{rises_self}
use Rattle.commitgate.proofs.Tellings.{tell_ended}
use Rattle.commitgate.proofs.state.GateState.stop_long.Goals as goal

pub stop-requires-clause-ends : goal.stop-requires-clause-ends
stop-requires-clause-ends g c =
    let n = g.K.Naming.named in
    let held = c.args.self.now in
    let may = c.requires.may in
    subst (λ (p : ℕ). EndsIn (design_of n.code) n.limits (length held.journal) (state_in n.code held) (Stopped (TooLong p))) (sym c.process.ensures)
    (long_ends n.code n.limits held c.args.ticket.now (unfinished n.code n.limits held c.invariant_holds.ensures.guarded may.running) may.current may.room c.requires.long)

pub returns-clause-seat : goal.returns-clause-seat
returns-clause-seat g c =
    let n = g.K.Naming.named in
    let old = c.args.seat.now in
    let why = TooLong c.process.result in
    let stop = c.stop.ensures in
    let ledger : c.stop.new.self.ledger ≡ c.args.self.now.ledger ++ (old.worker, Ended why) ∷ [] = ap (λ (h : GateState). h.ledger) stop.state in
    let seen : c.stop.new.seat.seen ≡ c.stop.new.self.ledger = ap (λ (v : SeatView). v.seen) stop.seat in
    tell_ended n (λ w. w ≡ why) old c.stop.new.seat why c.stop.new.self c.invariant_holds-2.ensures.guarded c.invariant_holds-2.ensures.kept
    (record {
      worker = ap (λ (v : SeatView). v.worker) stop.seat;
      later = ((old.worker, Ended why) ∷ [], ap (λ (l : Ledger). l ++ (old.worker, Ended why) ∷ []) c.requires.seen ∙ sym (seen ∙ ledger));
      rises = subst (λ f. HaveGrown old.fresh f) (sym (ap (λ (v : SeatView). v.fresh) stop.seat)) (rises_self old.fresh);
    })
    (ap (λ (v : SeatView). v.positions) stop.seat)
    seen
    (ap (λ (h : GateState). h.end) stop.state)
    (inr (ap (λ (v : SeatView). v.stored) stop.seat, refl))

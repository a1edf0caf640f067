-- Each answer says what the lock keeps, and what the seat is told.
use Rattle.std.proofs.Common.{◌≡◌, length, sym, ap, ◌∙◌, subst, inr, None}
use Rattle.std.proofs.lemmas.List.{length-map}
use Rattle.turn.specs.Reads.{GaveAll}
use Rattle.design.specs.Compiled.{design_of}
use Rattle.runstate.specs.GateState.{GateState}
use Rattle.regcells.specs.Meetings.{fresh_of, HaveGrown}
use Rattle.commitgate.specs.Seats.{SeatView}
use Rattle.runstate.specs.Histories.{hist, IsRead, IsFirstMovedIn}
use Rattle.runstate.specs.Evaluated.{turn_at}
use Rattle.commitgate.specs.GateAnswers.{IsRecorded, MayCommit, AreCurrent, stopped}
use Rattle.commitgate.specs.SeatAnswers as told
use Rattle.commitgate.proofs.Barring.{of_none, stopped_for, read_stopped, current_told, barred_long, barred_long_told, tell_stale, long_reads_in, long_by}
use Rattle.commitgate.proofs.Tellings.{stopped_first}
use Rattle.commitgate.proofs.state.GateState.too_long.Goals as goal

pub returns-in-Some-clause-state : goal.returns-in-Some-clause-state
returns-in-Some-clause-state g c =
    let n = g.K.Naming.named in
    barred_long n.code n.limits c.args.seat.now.worker c.args.self.now c.args.ticket c.args.reads.now.entries c.barred.new.self c.in-Some.reply c.in-Some.ensures.state

pub returns-in-Some-clause-seat : goal.returns-in-Some-clause-seat
returns-in-Some-clause-seat g c =
    barred_long_told g.K.Naming.named c.args.seat.now c.args.ticket c.args.reads.now.entries c.barred.new.seat c.in-Some.reply c.in-Some.ensures.seat

pub stale-requires-clause-declared : goal.stale-requires-clause-declared
stale-requires-clause-declared g c =
    long_reads_in g.K.Naming.named.code (length g.K.Naming.named.cells) c.args.ticket c.args.reads.now.entries c.invariant_holds.ensures.widths c.invariant_holds-2.ensures.own c.requires.turn

pub stale-requires-clause-recorded : goal.stale-requires-clause-recorded
stale-requires-clause-recorded g c =
    let code = g.K.Naming.named.code in
    let same = of_none c.barred.result _ c.barred.ensures.same c.in_default.is in
    let synchronized = of_none c.barred.result _ c.barred.ensures.synchronized c.in_default.is in
    subst (λ (h : GateState). GaveAll (IsRecorded code h.histories c.barred.new.seat.fresh) c.args.reads.now.entries) (sym same)
    (subst (λ (v : SeatView). GaveAll (IsRecorded code c.args.self.now.histories v.fresh) c.args.reads.now.entries) (sym synchronized) c.requires.recorded)

pub returns-in-Some-stale-clause-state : goal.returns-in-Some-stale-clause-state
returns-in-Some-stale-clause-state g c =
    let n = g.K.Naming.named in
    let same = of_none c.barred.result _ c.barred.ensures.same c.in_default.is in
    record {
      may = of_none c.barred.result _ c.barred.ensures.may c.in_default.is;
      moved = subst (λ (h : GateState). IsFirstMovedIn (design_of n.code) h.journal c.args.reads.now.entries c.in-Some-stale.register) same c.in-Some-stale.ensures.moved;
      back_is = c.again.ensures;
      same = c.stale.ensures.same ∙ same;
    }

pub returns-in-Some-stale-clause-seat : goal.returns-in-Some-stale-clause-seat
returns-in-Some-stale-clause-seat g c =
    let n = g.K.Naming.named in
    let r = c.in-Some-stale.register in
    let same = of_none c.barred.result _ c.barred.ensures.same c.in_default.is in
    let synchronized = of_none c.barred.result _ c.barred.ensures.synchronized c.in_default.is in
    let may = of_none c.barred.result _ c.barred.ensures.may c.in_default.is in
    let new = c.stale.new.seat in
    tell_stale n c.args.seat.now c.args.self.now c.invariant_holds.ensures.guarded c.invariant_holds.ensures.kept c.barred.ensures.later c.args.ticket c.again.result c.args.reads.now.entries r new
    (c.stale.ensures.seat ∙ ap (λ (v : SeatView). record v { fresh = new.fresh }) synchronized)
    (subst (λ (v : SeatView). HaveGrown v.fresh new.fresh) synchronized c.stale.ensures.rises)
    may.running
    c.again.ensures
    (subst (λ (h : GateState). IsFirstMovedIn (design_of n.code) h.journal c.args.reads.now.entries r) same c.in-Some-stale.ensures.moved)
    (subst (λ (h : GateState). fresh_of new.fresh r ≡ hist (design_of n.code) h.journal r) same c.in-Some-stale.ensures.met)

pub stop_long-requires-clause-seen : goal.stop_long-requires-clause-seen
stop_long-requires-clause-seen g c =
    let same = c.stale.ensures.same ∙ of_none c.barred.result _ c.barred.ensures.same c.in_default.is in
    let synchronized = of_none c.barred.result _ c.barred.ensures.synchronized c.in_default.is in
    ap (λ (v : SeatView). v.seen) c.stale.ensures.seat ∙ ap (λ (v : SeatView). v.seen) synchronized ∙ ap (λ (h : GateState). h.ledger) (sym same)

pub stop_long-requires-clause-may : goal.stop_long-requires-clause-may
stop_long-requires-clause-may g c =
    let same = c.stale.ensures.same ∙ of_none c.barred.result _ c.barred.ensures.same c.in_default.is in
    subst (λ (h : GateState). MayCommit g.K.Naming.named.limits h c.args.ticket) (sym same) (of_none c.barred.result _ c.barred.ensures.may c.in_default.is)

pub stop_long-requires-clause-long : goal.stop_long-requires-clause-long
stop_long-requires-clause-long g c =
    let n = g.K.Naming.named in
    let held = c.args.self.now in
    let reads = c.args.reads.now.entries in
    let barred = of_none c.barred.result _ c.barred.ensures.same c.in_default.is in
    let may = of_none c.barred.result _ c.barred.ensures.may c.in_default.is in
    let current = subst (λ (h : GateState). AreCurrent n.code h reads) barred (of_none c.stale.result _ c.stale.ensures.none c.in_default-stale.is) in
    let read = subst (λ (h : GateState). GaveAll (IsRead n.code h.histories) reads) barred (of_none c.stale.result _ c.stale.ensures.read c.in_default-stale.is) in
    subst (λ (h : GateState). turn_at n.code h c.args.ticket.process c.args.ticket.state ≡ None) (sym (c.stale.ensures.same ∙ barred))
    (long_by n held c.args.ticket reads c.invariant_holds.ensures.kept may.current c.invariant_holds-2.ensures.own c.requires.turn read current (sym (length-map held.values length) ∙ ap length c.invariant_holds.ensures.guarded.store))

pub returns-clause-state : goal.returns-clause-state
returns-clause-state g c =
    let n = g.K.Naming.named in
    let held = c.args.self.now in
    let reads = c.args.reads.now.entries in
    let barred = of_none c.barred.result _ c.barred.ensures.same c.in_default.is in
    let same = c.stale.ensures.same ∙ barred in
    let may = of_none c.barred.result _ c.barred.ensures.may c.in_default.is in
    let current = subst (λ (h : GateState). AreCurrent n.code h reads) barred (of_none c.stale.result _ c.stale.ensures.none c.in_default-stale.is) in
    let read = subst (λ (h : GateState). GaveAll (IsRead n.code h.histories) reads) barred (of_none c.stale.result _ c.stale.ensures.read c.in_default-stale.is) in
    let worker = ap (λ (v : SeatView). v.worker) c.stale.ensures.seat ∙ ap (λ (v : SeatView). v.worker) (of_none c.barred.result _ c.barred.ensures.synchronized c.in_default.is) in
    read_stopped n.code n.limits c.args.seat.now.worker held c.args.ticket reads c.stop_long.result c.stop_long.new.self c.stop_long.ensures.why
    may current
    (long_by n held c.args.ticket reads c.invariant_holds.ensures.kept may.current c.invariant_holds-2.ensures.own c.requires.turn read current (sym (length-map held.values length) ∙ ap length c.invariant_holds.ensures.guarded.store))
    (c.stop_long.ensures.state ∙ (λ i. stopped (worker i) c.stop_long.result (same i)))

pub returns-clause-seat : goal.returns-clause-seat
returns-clause-seat g c =
    let n = g.K.Naming.named in
    let old = c.args.seat.now in
    let fresh = c.stale.new.seat.fresh in
    let synchronized = of_none c.barred.result _ c.barred.ensures.synchronized c.in_default.is in
    let seat = c.stale.ensures.seat ∙ ap (λ (v : SeatView). record v { fresh = fresh }) synchronized in
    let reads = c.args.reads.now.entries in
    let new = c.stop_long.new.seat in
    let causes = told.ReadCauses n c.args.ticket.process reads new in
    let barred = of_none c.barred.result _ c.barred.ensures.same c.in_default.is in
    let same = c.stale.ensures.same ∙ barred in
    let current = current_told n c.stale.new.seat.worker c.stop_long.result c.args.self.now c.stop_long.new.self reads new c.invariant_holds.ensures.kept
    (c.stop_long.ensures.state ∙ ap (stopped c.stale.new.seat.worker c.stop_long.result) same) c.stop_long.ensures.seen
    (subst (λ (h : GateState). AreCurrent n.code h reads) barred (of_none c.stale.result _ c.stale.ensures.none c.in_default-stale.is)) in
    let long = stopped_for n (λ why. why ≡ c.stop_long.result) causes c.stale.new.seat c.stop_long.result new (λ _. inr (c.stop_long.ensures.why, current)) c.stop_long.ensures.seat in
    stopped_first n old c.args.self.now.ledger c.barred.ensures.later fresh (subst (λ (v : SeatView). HaveGrown v.fresh fresh) synchronized c.stale.ensures.rises) causes c.stop_long.result new
    (subst (λ (v : SeatView). told.IsSeenStopped n causes v c.stop_long.result new) seat long)

-- Each answer says what the lock keeps, and what the seat is told.
use Rattle.std.proofs.Common.{◌≡◌, ℕ, length, sym, ap, ◌∙◌, subst}
use Rattle.turn.specs.Reads.{GaveAll}
use Rattle.runstate.specs.GateState.{GateState}
use Rattle.design.specs.Compiled.{design_of}
use Rattle.regcells.specs.Meetings.{fresh_of, HaveGrown, AreReadsIn, HasMetReads}
use Rattle.commitgate.specs.Seats.{SeatView}
use Rattle.runstate.specs.Histories.{hist, IsRead, IsFirstMovedIn}
use Rattle.commitgate.specs.GateAnswers.{IsRecorded, MayCommit, AreCurrent}
use Rattle.commitgate.specs.HeldTurns.{IsCurrentTurn}
use Rattle.commitgate.specs.Replies.{Answered}
use Rattle.commitgate.specs.SeatAnswers.{CommitCauses, AnsweredTo}
use Rattle.commitgate.proofs.Barring.{of_none, barred_answered, barred_told, tell_stale}
use Rattle.commitgate.proofs.Tellings.{answered_first}
use Rattle.commitgate.proofs.Validating.{reads_in}
use Rattle.commitgate.proofs.state.GateState.validate.Goals as goal

pub returns-in-Some-clause-state : goal.returns-in-Some-clause-state
returns-in-Some-clause-state g c =
    let n = g.K.Naming.named in
    barred_answered n.code n.limits c.args.seat.now.worker c.args.self.now c.args.ticket c.args.log.now.reads c.barred.new.self c.in-Some.reply c.in-Some.ensures.state

pub returns-in-Some-clause-seat : goal.returns-in-Some-clause-seat
returns-in-Some-clause-seat g c =
    barred_told g.K.Naming.named c.args.seat.now c.args.ticket c.args.log.now.reads c.barred.new.seat c.in-Some.reply c.in-Some.ensures.seat

pub stale-requires-clause-declared : goal.stale-requires-clause-declared
stale-requires-clause-declared g c =
    subst (λ rs. AreReadsIn (length g.K.Naming.named.cells) rs) (sym c.reads.ensures)
    (reads_in g.K.Naming.named.code (length g.K.Naming.named.cells) c.args.ticket c.args.log.now c.invariant_holds.ensures.widths c.invariant_holds-2.ensures.own c.requires.turn)

pub stale-requires-clause-recorded : goal.stale-requires-clause-recorded
stale-requires-clause-recorded g c =
    let code = g.K.Naming.named.code in
    let same = of_none c.barred.result _ c.barred.ensures.same c.in_default.is in
    let synchronized = of_none c.barred.result _ c.barred.ensures.synchronized c.in_default.is in
    subst (λ rs. GaveAll (IsRecorded code c.barred.new.self.histories c.barred.new.seat.fresh) rs) (sym c.reads.ensures)
    (subst (λ (h : GateState). GaveAll (IsRecorded code h.histories c.barred.new.seat.fresh) c.args.log.now.reads) (sym same)
    (subst (λ (v : SeatView). GaveAll (IsRecorded code c.args.self.now.histories v.fresh) c.args.log.now.reads) (sym synchronized) c.requires.recorded))

pub returns-in-Some-stale-clause-state : goal.returns-in-Some-stale-clause-state
returns-in-Some-stale-clause-state g c =
    let n = g.K.Naming.named in
    let same = of_none c.barred.result _ c.barred.ensures.same c.in_default.is in
    record {
      may = of_none c.barred.result _ c.barred.ensures.may c.in_default.is;
      moved = subst (λ (h : GateState). IsFirstMovedIn (design_of n.code) h.journal c.args.log.now.reads c.in-Some-stale.register) same
          (subst (λ rs. IsFirstMovedIn (design_of n.code) c.barred.new.self.journal rs c.in-Some-stale.register) c.reads.ensures c.in-Some-stale.ensures.moved);
      back_is = c.again.ensures;
      same = c.stale.ensures.same ∙ same;
    }

pub returns-in-Some-stale-clause-seat : goal.returns-in-Some-stale-clause-seat
returns-in-Some-stale-clause-seat g c =
    let n = g.K.Naming.named in
    let r = c.in-Some-stale.register in
    let same = of_none c.barred.result _ c.barred.ensures.same c.in_default.is in
    let synchronized = of_none c.barred.result _ c.barred.ensures.synchronized c.in_default.is in
    let may = of_none c.barred.result _ c.barred.ensures.may c.in_default.is in
    let new = c.stale.new.seat in
    tell_stale n c.args.seat.now c.args.self.now c.invariant_holds.ensures.guarded c.invariant_holds.ensures.kept c.barred.ensures.later c.args.ticket c.again.result c.args.log.now.reads r new
    (c.stale.ensures.seat ∙ ap (λ (v : SeatView). record v { fresh = new.fresh }) synchronized)
    (subst (λ (v : SeatView). HaveGrown v.fresh new.fresh) synchronized c.stale.ensures.rises)
    may.running
    c.again.ensures
    (subst (λ (h : GateState). IsFirstMovedIn (design_of n.code) h.journal c.args.log.now.reads r) same
    (subst (λ rs. IsFirstMovedIn (design_of n.code) c.barred.new.self.journal rs r) c.reads.ensures c.in-Some-stale.ensures.moved))
    (subst (λ (h : GateState). fresh_of new.fresh r ≡ hist (design_of n.code) h.journal r) same c.in-Some-stale.ensures.met)

pub accept-requires-clause-seen : goal.accept-requires-clause-seen
accept-requires-clause-seen g c =
    let same = of_none c.barred.result _ c.barred.ensures.same c.in_default.is in
    let synchronized = of_none c.barred.result _ c.barred.ensures.synchronized c.in_default.is in
    ap (λ (v : SeatView). v.seen) c.stale.ensures.seat ∙ ap (λ (v : SeatView). v.seen) synchronized ∙ ap (λ (h : GateState). h.ledger) (sym (c.stale.ensures.same ∙ same))

pub accept-requires-clause-may : goal.accept-requires-clause-may
accept-requires-clause-may g c =
    let n = g.K.Naming.named in
    let same = of_none c.barred.result _ c.barred.ensures.same c.in_default.is in
    subst (λ (h : GateState). MayCommit n.limits h c.args.ticket) (sym (c.stale.ensures.same ∙ same)) (of_none c.barred.result _ c.barred.ensures.may c.in_default.is)

pub accept-requires-clause-turn : goal.accept-requires-clause-turn
accept-requires-clause-turn g c =
    let code = g.K.Naming.named.code in
    subst (λ (h : GateState). IsCurrentTurn code h c.args.ticket c.args.log.now) (sym c.stale.ensures.same) (record {
      turn = c.requires.turn;
      recorded = subst (λ rs. GaveAll (IsRead code c.barred.new.self.histories) rs) c.reads.ensures (of_none c.stale.result _ c.stale.ensures.read c.in_default-stale.is);
      current = subst (λ rs. AreCurrent code c.barred.new.self rs) c.reads.ensures (of_none c.stale.result _ c.stale.ensures.none c.in_default-stale.is);
    })

pub accept-requires-clause-met : goal.accept-requires-clause-met
accept-requires-clause-met g c =
    subst (λ (h : GateState). HasMetReads h.histories c.stale.new.seat.fresh c.args.log.now.reads) (sym c.stale.ensures.same)
    (subst (λ rs. HasMetReads c.barred.new.self.histories c.stale.new.seat.fresh rs) c.reads.ensures (of_none c.stale.result _ c.stale.ensures.shown c.in_default-stale.is))

pub returns-clause-state : goal.returns-clause-state
returns-clause-state g c =
    let n = g.K.Naming.named in
    let same = c.stale.ensures.same ∙ of_none c.barred.result _ c.barred.ensures.same c.in_default.is in
    let worker = ap (λ (v : SeatView). v.worker) c.stale.ensures.seat ∙ ap (λ (v : SeatView). v.worker) (of_none c.barred.result _ c.barred.ensures.synchronized c.in_default.is) in
    subst (λ (h : GateState). Answered n.code n.limits c.args.seat.now.worker h c.args.ticket c.args.log.now.reads c.accept.new.self c.accept.result) same
    (subst (λ (w : ℕ). Answered n.code n.limits w c.stale.new.self c.args.ticket c.args.log.now.reads c.accept.new.self c.accept.result) worker c.accept.ensures.state)

pub returns-clause-seat : goal.returns-clause-seat
returns-clause-seat g c =
    let n = g.K.Naming.named in
    let old = c.args.seat.now in
    let fresh = c.stale.new.seat.fresh in
    let synchronized = of_none c.barred.result _ c.barred.ensures.synchronized c.in_default.is in
    let seat = c.stale.ensures.seat ∙ ap (λ (v : SeatView). record v { fresh = fresh }) synchronized in
    answered_first n old c.args.self.now.ledger c.barred.ensures.later fresh (subst (λ (v : SeatView). HaveGrown v.fresh fresh) synchronized c.stale.ensures.rises) CommitCauses c.args.ticket c.args.log.now.reads c.accept.new.seat c.accept.result
    (subst (λ (v : SeatView). AnsweredTo n CommitCauses v c.args.ticket c.args.log.now.reads c.accept.new.seat c.accept.result) seat c.accept.ensures.seat)

pub returns-in-Some-stale-clause-seen : goal.returns-in-Some-stale-clause-seen
returns-in-Some-stale-clause-seen g c =
    let same = of_none c.barred.result _ c.barred.ensures.same c.in_default.is in
    let synchronized = of_none c.barred.result _ c.barred.ensures.synchronized c.in_default.is in
    ap (λ (v : SeatView). v.seen) c.stale.ensures.seat ∙ ap (λ (v : SeatView). v.seen) synchronized ∙ ap (λ (h : GateState). h.ledger) (sym (c.stale.ensures.same ∙ same))

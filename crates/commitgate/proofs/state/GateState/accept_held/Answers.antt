-- The seat has met what was read, and then the turn is accepted.
use Rattle.std.proofs.Common.{◌≡◌, ℕ, length, sym, ap, ◌∙◌, subst}
use mathlib.Core.List.{IsPrefix}
use Rattle.runstate.specs.Ledger.{Ledger}
use Rattle.runstate.specs.GateState.{GateState}
use Rattle.regcells.specs.Meetings.{AreReadsIn, HasMetReads}
use Rattle.commitgate.specs.Seats.{SeatView}
use Rattle.commitgate.specs.GateAnswers.{MayCommit}
use Rattle.commitgate.specs.HeldTurns.{IsCurrentTurn}
use Rattle.commitgate.specs.Replies.{Answered}
use Rattle.commitgate.specs.SeatAnswers.{CommitCauses, AnsweredTo}
use Rattle.runstate.proofs.Beginnings.{prefix_self}
use Rattle.commitgate.proofs.Tellings.{answered_first}
use Rattle.commitgate.proofs.Validating.{reads_in}
use Rattle.commitgate.proofs.state.GateState.accept_held.Goals as goal

pub show_reads-requires : goal.show_reads-requires
show_reads-requires g c = record {
  reads = subst (λ rs. AreReadsIn (length g.K.Naming.named.cells) rs) (sym c.reads.ensures)
      (reads_in g.K.Naming.named.code (length g.K.Naming.named.cells) c.args.ticket c.args.log.now c.invariant_holds.ensures.widths c.invariant_holds-2.ensures.own c.requires.turn.turn);
}

pub accept-requires-clause-seen : goal.accept-requires-clause-seen
accept-requires-clause-seen g c =
    ap (λ (v : SeatView). v.seen) c.show_reads.ensures.seat ∙ c.requires.seen ∙ ap (λ (h : GateState). h.ledger) (sym c.show_reads.ensures.same)

pub accept-requires-clause-may : goal.accept-requires-clause-may
accept-requires-clause-may g c =
    subst (λ (h : GateState). MayCommit g.K.Naming.named.limits h c.args.ticket) (sym c.show_reads.ensures.same) c.requires.may

pub accept-requires-clause-turn : goal.accept-requires-clause-turn
accept-requires-clause-turn g c =
    subst (λ (h : GateState). IsCurrentTurn g.K.Naming.named.code h c.args.ticket c.args.log.now) (sym c.show_reads.ensures.same) c.requires.turn

pub accept-requires-clause-met : goal.accept-requires-clause-met
accept-requires-clause-met g c =
    subst (λ (h : GateState). HasMetReads h.histories c.show_reads.new.seat.fresh c.args.log.now.reads) (sym c.show_reads.ensures.same)
    (subst (λ rs. HasMetReads c.args.self.now.histories c.show_reads.new.seat.fresh rs) c.reads.ensures c.show_reads.ensures.met)

pub returns-clause-state : goal.returns-clause-state
returns-clause-state g c =
    let n = g.K.Naming.named in
    let worker = ap (λ (v : SeatView). v.worker) c.show_reads.ensures.seat in
    subst (λ (h : GateState). Answered n.code n.limits c.args.seat.now.worker h c.args.ticket c.args.log.now.reads c.accept.new.self c.accept.result) c.show_reads.ensures.same
    (subst (λ (w : ℕ). Answered n.code n.limits w c.show_reads.new.self c.args.ticket c.args.log.now.reads c.accept.new.self c.accept.result) worker c.accept.ensures.state)

pub returns-clause-seat : goal.returns-clause-seat
returns-clause-seat g c =
    let n = g.K.Naming.named in
    let old = c.args.seat.now in
    let ledger : Ledger = c.args.self.now.ledger in
    let fresh = c.show_reads.new.seat.fresh in
    let seat = c.show_reads.ensures.seat ∙ ap (λ (l : Ledger). record old { seen = l; fresh = fresh }) c.requires.seen in
    answered_first n old ledger (subst (λ (l : Ledger). IsPrefix l ledger) (sym c.requires.seen) (prefix_self ledger)) fresh c.show_reads.ensures.rises CommitCauses c.args.ticket c.args.log.now.reads c.accept.new.seat c.accept.result
    (subst (λ (v : SeatView). AnsweredTo n CommitCauses v c.args.ticket c.args.log.now.reads c.accept.new.seat c.accept.result) seat c.accept.ensures.seat)

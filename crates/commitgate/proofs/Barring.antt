-- A ticket that is answered whatever its turn is, one whose reads have changed, and one whose turn is too long.
use Rattle.std.proofs.Common.{◌≡◌, ◌⊎◌, ℕ, ◌<◌, List, length, map, Option, Some, None, refl, sym, ap, ◌∙◌, subst, inl, inr}
use Rattle.std.specs.Prelude.{slice_get, IfNone}
use mathlib.Core.List.{IsPrefix}
use Rattle.logic4.specs.Vector.{Vector}
use Rattle.model.specs.declared.end.Why.{Why}
use Rattle.model.specs.declared.end.Why.TheVariants.{TooLong}
use Rattle.model.specs.declared.end.Limits.{Limits}
use Rattle.design.specs.Compiled.{Compiled, design_of}
use Rattle.design.specs.DesignInvariant.{IsStateOf}
use Rattle.turn.specs.declared.memory.Seen.{Seen}
use Rattle.turn.specs.declared.log.FillFault.TheVariants as fault
use Rattle.turn.specs.TurnAnswers.{IsNoTurn}
use Rattle.turn.specs.Reads.{Agrees, GaveAll}
use Rattle.regcells.specs.Values.{last_value}
use Rattle.commitgate.specs.declared.reply.Reply.{Reply}
use Rattle.commitgate.specs.declared.reply.Reply.TheVariants as replies
use Rattle.commitgate.specs.declared.reply.Reply.TheVariants.{Accepted, Stale, Gone, NoMemory}
use Rattle.commitgate.specs.Named.{Named}
use Rattle.runstate.specs.Ledger.{entries_of}
use Rattle.runstate.specs.GateState.{GateState}
use Rattle.runstate.specs.Guarded.{Guarded}
use Rattle.commitgate.specs.GateInvariant.{GateInvariant}
use Rattle.regcells.specs.Meetings.{fresh_of, HaveGrown, AreReadsIn}
use Rattle.commitgate.specs.Seats.{SeatView}
use Rattle.commitgate.specs.Tickets.{TicketView, IsCurrent, again}
use Rattle.runstate.specs.Histories.{hist, IsRead, IsCurrentIn, IsFirstMovedIn}
use Rattle.runstate.proofs.Items.{entries_ended}
use Rattle.runstate.specs.Evaluated.{turn_at}
use Rattle.commitgate.specs.GateAnswers.{IsRecorded, MayCommit, AreCurrent, StopsRun, Full, Long, LongStopsAt, FullLong, CurrentLong, stopped}
use Rattle.commitgate.specs.GateAnswers as answers
use Rattle.commitgate.specs.Replies.{Barred, Answered, LongAnswered}
use Rattle.commitgate.specs.SeatAnswers.{AreCurrentTo, CommitCauses, LongCauses, ReadCauses, IsSeenStopped, IsSeenStale, BarredTo, AnsweredTo, LongAnsweredTo}
use Rattle.commitgate.proofs.Agreeing.{agrees}
use Rattle.commitgate.proofs.AtLock.{long_at_lock}
use Rattle.commitgate.proofs.Tellings.{tell_refused}
use Rattle.commitgate.proofs.Validating.{get_all}
use Rattle.runstate.proofs.Beginnings.{prefix_self}

-- what holds where there is none
pub of_none : {A : Type 0} (o : Option A) (P : Type 0) → IfNone o P → o ≡ None → P
of_none o P h is = subst (λ x. IfNone x P) is h

-- Such an answer is one to a ticket with a log, and one to a ticket whose turn is too long.
pub barred_answered : {A : Type 0} (code : Compiled) (limits : Limits) (worker : ℕ) (old : GateState) (ticket : TicketView) (reads : List (ℕ × Seen)) (new : GateState) (r : Reply A)
    → Barred code limits worker old ticket new r → Answered code limits worker old ticket reads new r
barred_answered code limits worker old ticket reads new (Accepted grant) h = absurd h
barred_answered code limits worker old ticket reads new (Stale register back) h = absurd h
barred_answered code limits worker old ticket reads new Gone h = h
barred_answered code limits worker old ticket reads new (replies.Stopped why) h = h
barred_answered code limits worker old ticket reads new (NoMemory back) h = absurd h

pub full_stopped : (code : Compiled) (limits : Limits) (worker : ℕ) (old : GateState) (ticket : TicketView) (why : Why) (new : GateState)
    → answers.IsFullStopped code limits worker old ticket why new → answers.IsStopped code limits worker old ticket why new
full_stopped code limits worker old ticket why new (inl h) = inl h
full_stopped code limits worker old ticket why new (inr h) = inr (h.0, h.1, subst (StopsRun code limits old ticket) (sym h.3) (Full h.2), h.4)

full_long_stopped : (code : Compiled) (limits : Limits) (worker : ℕ) (old : GateState) (ticket : TicketView) (reads : List (ℕ × Seen)) (why : Why) (new : GateState)
    → answers.IsFullStopped code limits worker old ticket why new → answers.IsLongStopped code limits worker old ticket reads why new
full_long_stopped code limits worker old ticket reads why new (inl h) = inl h
full_long_stopped code limits worker old ticket reads why new (inr h) = inr (h.0, h.1, subst (LongStopsAt code limits old ticket reads) (sym h.3) (FullLong h.2), h.4)

pub barred_long : {A : Type 0} (code : Compiled) (limits : Limits) (worker : ℕ) (old : GateState) (ticket : TicketView) (reads : List (ℕ × Seen)) (new : GateState) (r : Reply A)
    → Barred code limits worker old ticket new r → LongAnswered code limits worker old ticket reads new r
barred_long code limits worker old ticket reads new (Accepted grant) h = absurd h
barred_long code limits worker old ticket reads new (Stale register back) h = absurd h
barred_long code limits worker old ticket reads new Gone h = h
barred_long code limits worker old ticket reads new (replies.Stopped why) h = full_long_stopped code limits worker old ticket reads why new h
barred_long code limits worker old ticket reads new (NoMemory back) h = absurd h

-- a stop for one cause is a stop for any that it implies
stored_for : (P Q : Why → Type 0) (new old : Option Why) (why : Why) → (P why → Q why) → (new ≡ old) ⊎ ((new ≡ Some why) × P why) → (new ≡ old) ⊎ ((new ≡ Some why) × Q why)
stored_for P Q new old why f (inl h) = inl h
stored_for P Q new old why f (inr h) = inr (h.0, f h.1)

pub stopped_for : (n : Named) (P Q : Why → Type 0) (old : SeatView) (why : Why) (new : SeatView) → (P why → Q why) → IsSeenStopped n P old why new → IsSeenStopped n Q old why new
stopped_for n P Q old why new f s = record {
  ledger = s.ledger;
  follows = s.follows;
  positions = s.positions;
  end = s.end;
  stays = s.stays;
  stored = stored_for P Q new.stored old.stored why f s.stored;
}

-- a stop for a full journal is one of the causes of a call with a turn that is too long
pub stopped_long : (n : Named) (p : ℕ) (old : SeatView) (why : Why) (new : SeatView) → IsSeenStopped n CommitCauses old why new → IsSeenStopped n (LongCauses p) old why new
stopped_long n p old why new s = stopped_for n CommitCauses (LongCauses p) old why new (λ h. inl h) s

-- The same of what the seat is told.
pub barred_told : {A : Type 0} (n : Named) (old : SeatView) (ticket : TicketView) (reads : List (ℕ × Seen)) (new : SeatView) (r : Reply A)
    → BarredTo n old ticket new r → AnsweredTo n CommitCauses old ticket reads new r
barred_told n old ticket reads new (Accepted grant) h = absurd h
barred_told n old ticket reads new (Stale register back) h = absurd h
barred_told n old ticket reads new Gone h = h
barred_told n old ticket reads new (replies.Stopped why) h = h
barred_told n old ticket reads new (NoMemory back) h = absurd h

pub barred_long_told : {A : Type 0} (n : Named) (old : SeatView) (ticket : TicketView) (reads : List (ℕ × Seen)) (new : SeatView) (r : Reply A)
    → BarredTo n old ticket new r → LongAnsweredTo n old ticket reads new r
barred_long_told n old ticket reads new (Accepted grant) h = absurd h
barred_long_told n old ticket reads new (Stale register back) h = absurd h
barred_long_told n old ticket reads new Gone h = h
barred_long_told n old ticket reads new (replies.Stopped why) h = stopped_for n CommitCauses (ReadCauses n ticket.process reads new) old why new (λ e. inl e) h
barred_long_told n old ticket reads new (NoMemory back) h = absurd h

-- a register that was read has changed
pub tell_stale : (n : Named) (old : SeatView) (held : GateState) → Guarded n.code n.limits held → GateInvariant n held → IsPrefix old.seen held.ledger
    → (ticket back : TicketView) (reads : List (ℕ × Seen)) (r : ℕ) (new : SeatView) → new ≡ record old { seen = held.ledger; fresh = new.fresh } → HaveGrown old.fresh new.fresh → held.end ≡ None
    → back ≡ again ticket → IsFirstMovedIn (design_of n.code) held.journal reads r → fresh_of new.fresh r ≡ hist (design_of n.code) held.journal r
    → IsSeenStale n old ticket reads r back new
tell_stale n old held g k later ticket back reads r new is rises running returned moved met =
    let journal : held.journal ≡ entries_of new.seen = k.journal_is ∙ ap entries_of (sym (ap (λ (v : SeatView). v.seen) is)) in
    record {
      refused = tell_refused n old held g k later new new.fresh is rises running;
      back_is = returned;
      moved = subst (λ j. IsFirstMovedIn (design_of n.code) j reads r) journal moved;
      met = met ∙ ap (λ j. hist (design_of n.code) j r) journal;
    }

-- what was read of a turn that is too long is of declared registers
pub long_reads_in : (code : Compiled) (m : ℕ) (ticket : TicketView) (reads : List (ℕ × Seen)) → m ≡ length code.widths → IsStateOf code ticket.process ticket.state
    → IsNoTurn code ticket.state ticket.time reads fault.TooLong → AreReadsIn m reads
long_reads_in code m ticket reads e own turn k d at =
    subst (λ j. d.0 < j) (sym e) (get_all (λ (r : ℕ × Seen). r.0 < length code.widths) reads (turn ticket.process own).0 k d at)

-- where what was read is current, the ticket's evaluation has no short turn
pub long_by : (n : Named) (held : GateState) (ticket : TicketView) (reads : List (ℕ × Seen)) → GateInvariant n held → IsCurrent held.core ticket → IsStateOf n.code ticket.process ticket.state
    → IsNoTurn n.code ticket.state ticket.time reads fault.TooLong → GaveAll (IsRead n.code held.histories) reads → AreCurrent n.code held reads
    → length held.values ≡ length n.code.widths
    → turn_at n.code held ticket.process ticket.state ≡ None
long_by n held ticket reads kept current own turn gave cur count =
    let low = long_reads_in n.code (length n.code.widths) ticket reads refl own turn in
    let agree : Agrees reads (map last_value held.histories) =
    agrees n.code held.histories held.histories reads gave (turn ticket.process own).0 (λ k d at. prefix_self (fresh_of held.histories d.0)) (λ k d at. ap length (kept.histories d.0 (low k d at)) ∙ cur k d at) in
    long_at_lock n.code held ticket.process ticket.state reads own count
    (subst (λ t. IsNoTurn n.code ticket.state t reads fault.TooLong) (sym current.time) turn)
    (subst (Agrees reads) (sym kept.values) agree)

-- what is current under the lock is current in what a seat has seen that saw the run stopped
pub current_told : (n : Named) (worker : ℕ) (why : Why) (held held' : GateState) (reads : List (ℕ × Seen)) (new : SeatView) → GateInvariant n held → held' ≡ stopped worker why held → new.seen ≡ held'.ledger
    → AreCurrent n.code held reads → AreCurrentTo n reads new
current_told n worker why held held' reads new kept is seen current k d at =
    let journal : held.journal ≡ entries_of new.seen =
    kept.journal_is ∙ sym (entries_ended held.ledger worker why) ∙ ap (λ (h : GateState). entries_of h.ledger) (sym is) ∙ ap entries_of (sym seen) in
    subst (λ j. IsCurrentIn (design_of n.code) j d) journal (current k d at)

-- the run is stopped for a turn that is too long, which was evaluated under the lock
pub long_stopped : (code : Compiled) (limits : Limits) (worker : ℕ) (old : GateState) (ticket : TicketView) (why : Why) (new : GateState) → why ≡ TooLong ticket.process → MayCommit limits old ticket
    → turn_at code old ticket.process ticket.state ≡ None → new ≡ stopped worker why old → answers.IsStopped code limits worker old ticket why new
long_stopped code limits worker old ticket why new is may none same =
    inr (may.running, may.current, subst (StopsRun code limits old ticket) (sym is) (Long may.room none), same)

-- and so it is for one that was evaluated outside, where what was read is current
pub read_stopped : (code : Compiled) (limits : Limits) (worker : ℕ) (old : GateState) (ticket : TicketView) (reads : List (ℕ × Seen)) (why : Why) (new : GateState) → why ≡ TooLong ticket.process
    → MayCommit limits old ticket → AreCurrent code old reads → turn_at code old ticket.process ticket.state ≡ None → new ≡ stopped worker why old
    → answers.IsLongStopped code limits worker old ticket reads why new
read_stopped code limits worker old ticket reads why new is may current none same =
    inr (may.running, may.current, subst (LongStopsAt code limits old ticket reads) (sym is) (CurrentLong may.room current none), same)

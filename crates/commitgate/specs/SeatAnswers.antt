-- What a seat is told by each call, in terms of what it has seen.
use Rattle.std.specs.Prelude.{◌≡◌, ◌⊎◌, ℕ, ◌<◌, if◌then◌else◌, List, [], ◌∷◌, ◌++◌, length, slice_get, false, Some, None}
use mathlib.Core.List.{IsPrefix}
use Rattle.logic4.specs.Vector.{Vector}
use Rattle.std.specs.List.{All}
use Rattle.model.specs.declared.entry.Entry.{Entry}
use Rattle.model.specs.declared.entry.Entry.TheVariants.{Turn, Update, ActivateInactive, ActivateNba, ActivateMonitor, Advance}
use Rattle.model.specs.declared.end.Why.{Why}
use Rattle.model.specs.declared.end.Why.TheVariants.{Finish, Until, Entries, TooLong, Time, Memory}
use Rattle.model.specs.declared.end.End.TheVariants.{Quiet}
use Rattle.model.specs.States as states
use Rattle.model.specs.States.{State, Evaluate}
use Rattle.model.specs.Turns as turns
use Rattle.model.specs.Runs.{after, action_in, turn_of, is_quiet, Ends, IsTimely}
use Rattle.design.specs.Compiled.{design_of}
use Rattle.turn.specs.declared.memory.Seen.{Seen}
use Rattle.commitgate.specs.declared.reply.Reply.{Reply}
use Rattle.commitgate.specs.declared.reply.Reply.TheVariants.{Accepted, Stale, Gone, Stopped, NoMemory}
use Rattle.commitgate.specs.declared.reply.UpdateReply.{UpdateReply}
use Rattle.commitgate.specs.declared.reply.UpdateReply.TheVariants as updates
use Rattle.commitgate.specs.declared.reply.Rest.{Rest}
use Rattle.commitgate.specs.declared.reply.Rest.TheVariants as rests
use Rattle.commitgate.specs.Named.{Named}
use Rattle.runstate.specs.Ledger.{Ledger, entries_of, end_in, items_of}
use Rattle.regcells.specs.Meetings.{fresh_of}
use Rattle.commitgate.specs.Seats.{SeatView, Follows, LooksOn}
use Rattle.commitgate.specs.Tickets.{TicketView, AreRising, again}
use Rattle.runstate.specs.Histories.{hist, IsCurrentIn, IsFirstMovedIn}
use Rattle.commitgate.specs.GateJournals.{IsLedger, After, Stays, IsActiveTicket, made_active, AreTicketsOf, HasUpdate, HasNoActiveUpdate}
use Rattle.commitgate.specs.GateAnswers.{IsRegionChange}

-- the seat has seen the whole history of a register by a ledger
abbrev pub HasMet : Named → Ledger → List (List Vector) → ℕ → Type 0
HasMet n ledger fresh r = fresh_of fresh r ≡ hist (design_of n.code) (entries_of ledger) r

-- the same of each register that a turn reads or writes
pub record HasMetTurn (n : Named) (ledger : Ledger) (fresh : List (List Vector)) (turn : turns.Turn) : Type 0 where
  pub uses : All (HasMet n ledger fresh) turn.uses
  pub writes : All (λ w. HasMet n ledger fresh w.0) turn.writes

-- the same of each register that an entry's turn reads, or that the entry writes
abbrev pub HasMetEntry : Named → State → Entry → Ledger → List (List Vector) → Type 0
HasMetEntry n s (Turn number) ledger fresh =
    (p : ℕ) (turn : turns.Turn) → action_in s.active number ≡ Some (Evaluate p) → turn_of (design_of n.code) s p ≡ Some turn
    → HasMetTurn n ledger fresh turn
HasMetEntry n s (Update number) ledger fresh =
    (r : ℕ) (v : Vector) → action_in s.active number ≡ Some (states.Update r v) → r < length n.code.widths → HasMet n ledger fresh r
HasMetEntry n s ActivateInactive ledger fresh = Unit {0}
HasMetEntry n s ActivateNba ledger fresh = Unit {0}
HasMetEntry n s ActivateMonitor ledger fresh = Unit {0}
HasMetEntry n s (Advance time) ledger fresh = Unit {0}

-- The entry stands in the journal. What the seat has seen is lawful, is all that it had seen with further items, and
-- ends with this entry in the seat's name, with the end Finish behind it where the run is finished. Its position is one
-- more of the seat's. The answer names the entry and its position, counted from 0, and has a new ticket for each
-- evaluation that became active, in rising number. Of each register that the entry's turn read, or that the
-- entry wrote, the seat has seen the whole history.
pub record IsAppended (n : Named) (old : SeatView) (entry : Entry) (position : ℕ) (named : Entry) (tickets : List TicketView) (new : SeatView) : Type 0 where
  pub ledger : IsLedger n new.seen
  pub follows : Follows old new
  pub before : Ledger
  pub extends : IsPrefix old.seen before
  pub from : State
  pub from_is : after (design_of n.code) (entries_of before) ≡ Some from
  pub to : State
  pub to_is : after (design_of n.code) (entries_of new.seen) ≡ Some to
  pub ends : new.seen ≡ before ++ items_of old.worker entry to.finished
  pub positions : new.positions ≡ old.positions ++ position ∷ []
  pub stored : new.stored ≡ (if to.finished then Some Finish else old.stored)
  pub position_is : position ≡ length (entries_of before)
  pub entry_is : named ≡ entry
  pub tickets_are : AreTicketsOf n.code to (made_active from.active to.active) tickets
  pub rising : AreRising tickets
  pub met : HasMetEntry n from entry new.seen new.fresh

-- the run goes on, the call appended nothing, and what the seat has seen is lawful
pub record IsRefused (n : Named) (old new : SeatView) : Type 0 where
  pub ledger : IsLedger n new.seen
  pub running : end_in new.seen ≡ None
  pub looks_on : LooksOn old new

-- The run is stopped for this reason, which is the end in what the seat has seen and holds of it, and the journal stays
-- as it is. It was stored before or elsewhere, or else by this call, for one of its own causes.
pub record IsSeenStopped (n : Named) (causes : Why → Type 0) (old : SeatView) (why : Why) (new : SeatView) : Type 0 where
  pub ledger : IsLedger n new.seen
  pub follows : Follows old new
  pub positions : new.positions ≡ old.positions
  pub end : end_in new.seen ≡ Some why
  pub stays : Stays n new.seen
  pub stored : (new.stored ≡ old.stored) ⊎ ((new.stored ≡ Some why) × causes why)

-- for what a call with a log stops a run
abbrev pub CommitCauses : Why → Type 0
CommitCauses why = why ≡ Entries

-- each recorded version is the register's by the journal that the seat has then seen
abbrev pub AreCurrentTo : Named → List (ℕ × Seen) → SeatView → Type 0
AreCurrentTo n reads new = (k : ℕ) (d : ℕ × Seen) → slice_get reads k ≡ Some d → IsCurrentIn (design_of n.code) (entries_of new.seen) d

-- for what a call with a turn that was evaluated outside the lock and is too long stops a run: the journal is full, or all that was
-- read is current
abbrev pub ReadCauses : Named → ℕ → List (ℕ × Seen) → SeatView → Why → Type 0
ReadCauses n process reads new why = (why ≡ Entries) ⊎ ((why ≡ TooLong process) × AreCurrentTo n reads new)

-- for what a call that evaluates a turn under the lock stops a run
abbrev pub LongCauses : ℕ → Why → Type 0
LongCauses process why = (why ≡ Entries) ⊎ (why ≡ TooLong process)

-- for what a call for a change of the regions stops a run
abbrev pub RestCauses : Why → Type 0
RestCauses why = (why ≡ Entries) ⊎ ((why ≡ Until) ⊎ (why ≡ Time))

-- the turn of the ticket's event stands in the journal, and the ticket was of an active evaluation
pub record IsSeenAccepted (n : Named) (old : SeatView) (ticket : TicketView) (position : ℕ) (named : Entry) (tickets : List TicketView) (new : SeatView) : Type 0 where
  pub appended : IsAppended n old (Turn ticket.event) position named tickets new
  pub was : IsActiveTicket n.code appended.from ticket

-- A register that was read has changed since in what the seat has seen, those recorded before it haven't, and of this
-- register the seat has seen the whole history.
pub record IsSeenStale (n : Named) (old : SeatView) (ticket : TicketView) (reads : List (ℕ × Seen)) (r : ℕ) (back : TicketView) (new : SeatView) : Type 0 where
  pub refused : IsRefused n old new
  pub back_is : back ≡ again ticket
  pub moved : IsFirstMovedIn (design_of n.code) (entries_of new.seen) reads r
  pub met : HasMet n new.seen new.fresh r

-- after what the seat has seen no active evaluation has the ticket's event, process, remainder and time
pub record IsSeenGone (n : Named) (old : SeatView) (ticket : TicketView) (new : SeatView) : Type 0 where
  pub refused : IsRefused n old new
  pub gone : After n new.seen (λ s. IsActiveTicket n.code s ticket → ⊥)

-- The answers to a ticket whatever its turn is, by their cases.
abbrev pub BarredTo : {A : Type 0} → Named → SeatView → TicketView → SeatView → Reply A → Type 0
BarredTo n old ticket new (Accepted grant) = ⊥
BarredTo n old ticket new (Stale r back) = ⊥
BarredTo n old ticket new Gone = IsSeenGone n old ticket new
BarredTo n old ticket new (Stopped why) = IsSeenStopped n CommitCauses old why new
BarredTo n old ticket new (NoMemory back) = ⊥

-- The answers to a ticket with what was read in its turn, by their cases.
abbrev pub AnsweredTo : {A : Type 0} → Named → (Why → Type 0) → SeatView → TicketView → List (ℕ × Seen) → SeatView → Reply A → Type 0
AnsweredTo n causes old ticket reads new (Accepted grant) = IsSeenAccepted n old ticket grant.position grant.entry grant.tickets.items new
AnsweredTo n causes old ticket reads new (Stale r back) = IsSeenStale n old ticket reads r back new
AnsweredTo n causes old ticket reads new Gone = IsSeenGone n old ticket new
AnsweredTo n causes old ticket reads new (Stopped why) = IsSeenStopped n causes old why new
AnsweredTo n causes old ticket reads new (NoMemory back) = IsRefused n old new × (back ≡ ticket)

-- The answers to a ticket whose turn is too long: none is accepted.
abbrev pub LongAnsweredTo : {A : Type 0} → Named → SeatView → TicketView → List (ℕ × Seen) → SeatView → Reply A → Type 0
LongAnsweredTo n old ticket reads new (Accepted grant) = ⊥
LongAnsweredTo n old ticket reads new (Stale r back) = IsSeenStale n old ticket reads r back new
LongAnsweredTo n old ticket reads new Gone = IsSeenGone n old ticket new
LongAnsweredTo n old ticket reads new (Stopped why) = IsSeenStopped n (ReadCauses n ticket.process reads new) old why new
LongAnsweredTo n old ticket reads new (NoMemory back) = ⊥

-- The answers to a ticket whose turn is evaluated under the lock: none is stale.
abbrev pub HeldAnsweredTo : {A : Type 0} → Named → SeatView → TicketView → SeatView → Reply A → Type 0
HeldAnsweredTo n old ticket new (Accepted grant) = IsSeenAccepted n old ticket grant.position grant.entry grant.tickets.items new
HeldAnsweredTo n old ticket new (Stale r back) = ⊥
HeldAnsweredTo n old ticket new Gone = IsSeenGone n old ticket new
HeldAnsweredTo n old ticket new (Stopped why) = IsSeenStopped n (LongCauses ticket.process) old why new
HeldAnsweredTo n old ticket new (NoMemory back) = IsRefused n old new × (back ≡ ticket)

-- an active update stands in the journal
pub record IsUpdatedTo (n : Named) (old : SeatView) (position : ℕ) (named : Entry) (tickets : List TicketView) (new : SeatView) : Type 0 where
  pub number : ℕ
  pub appended : IsAppended n old (Update number) position named tickets new

-- The answers to a call for an update.
abbrev pub UpdateAnsweredTo : {A : Type 0} → Named → SeatView → SeatView → UpdateReply A → Type 0
UpdateAnsweredTo n old new (updates.Accepted grant) = IsUpdatedTo n old grant.position grant.entry grant.tickets.items new
UpdateAnsweredTo n old new updates.Nothing = IsRefused n old new × After n new.seen HasNoActiveUpdate
UpdateAnsweredTo n old new (updates.Stopped why) = IsSeenStopped n CommitCauses old why new
UpdateAnsweredTo n old new updates.NoMemory = IsRefused n old new

-- a change of the regions stands in the journal
pub record IsChangedTo (n : Named) (old : SeatView) (position : ℕ) (named : Entry) (tickets : List TicketView) (new : SeatView) : Type 0 where
  pub change : Entry
  pub is_change : IsRegionChange change
  pub timely : IsTimely n.limits change
  pub appended : IsAppended n old change position named tickets new

-- an update is active, or what the seat has seen has grown by an entry
abbrev pub IsBusy : Named → SeatView → SeatView → Type 0
IsBusy n old new = After n new.seen HasUpdate ⊎ (length (entries_of old.seen) < length (entries_of new.seen))

-- no event is left, and the journal stays as it is
pub record IsQuietTo (n : Named) (old new : SeatView) : Type 0 where
  pub refused : IsRefused n old new
  pub quiet : Ends (design_of n.code) n.limits (entries_of new.seen) Quiet
  pub stays : Stays n new.seen

-- The answers to a worker at rest.
abbrev pub RestAnsweredTo : {A : Type 0} → Named → SeatView → SeatView → Rest A → Type 0
RestAnsweredTo n old new (rests.Changed grant) = IsChangedTo n old grant.position grant.entry grant.tickets.items new
RestAnsweredTo n old new rests.Busy = IsRefused n old new × IsBusy n old new
RestAnsweredTo n old new rests.Quiet = IsQuietTo n old new
RestAnsweredTo n old new (rests.Stopped why) = IsSeenStopped n RestCauses old why new
RestAnsweredTo n old new rests.NoMemory = IsRefused n old new

-- for what a call for want of memory stops a run: the run wasn't stopped in what the seat had seen, and after the journal that it has
-- then seen an event is left
abbrev pub MemoryCauses : Named → SeatView → SeatView → Why → Type 0
MemoryCauses n old new why = (why ≡ Memory) × (end_in old.seen ≡ None) × After n new.seen (λ s. is_quiet s ≡ false)

-- After a call that stops a run for want of memory it is quiet, and then the seat stored nothing, or it is stopped, and the journal
-- stays as it is. The end was stored before, or else by this call for want of memory, where an event is left.
abbrev pub StoppedTo : Named → SeatView → SeatView → Type 0
StoppedTo n old new = IsQuietTo n old new ⊎ ((why : Why) × IsSeenStopped n (MemoryCauses n old new) old why new)

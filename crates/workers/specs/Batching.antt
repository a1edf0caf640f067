-- Several turns that a worker commits at once.
use Rattle.std.specs.Prelude.{◌≡◌, ℕ, ◌+◌, ◌-◌, ◌^◌, ◌<◌, ◌≤◌, List, [], length, slice_index_or}
use Rattle.std.specs.Vec.{vec_capacity}
use Rattle.std.specs.VecDeque.{deque_capacity}
use Rattle.commitgate.specs.Named.{Named}
use Rattle.turn.specs.TurnLogs.{LogView}
use Rattle.turn.specs.Reads.{GaveAll}
use Rattle.turn.specs.TurnAnswers.{IsNoTurn}
use Rattle.turn.specs.declared.log.FillFault.TheVariants.{TooLong}
use Rattle.runstate.specs.Histories.{IsRead}
use Rattle.commitgate.specs.Seats.{SeatView}
use Rattle.commitgate.specs.Tickets.{TicketView}
use Rattle.commitgate.specs.Batches.{AreOffered}
use Rattle.eventpool.specs.Ends.{Owning, Stealing}
use Rattle.workers.specs.declared.batch.Batch.{Batch}
use Rattle.workers.specs.declared.batch.Filling.{Filling}
use Rattle.workers.specs.declared.batch.Filling.TheVariants.{More, Enough, Over}
use Rattle.workers.specs.declared.next_round.NextRound.{NextRound}
use Rattle.workers.specs.declared.next_round.NextRound.TheVariants.{GoesOn, Ends}
use Rattle.workers.specs.declared.worker.Worker.{Worker}
use Rattle.workers.specs.declared.worker.WorkerRoom.{WorkerRoom}
use Rattle.workers.specs.Keeping.{weigh_got, ExtendsWorker, KeepsAll}
use Rattle.workers.specs.WorkerInvariant.{HasPositions, seat_turn_count, SameEnds, IsOver, got_by_ends}

-- the most of them
abbrev pub most_turns : ℕ
most_turns = 16

-- a batch has room for the most turns: a log for each, their tickets, and their answers
abbrev pub HasBatchRoom : {A : Type 0} → Batch A → Type 0
HasBatchRoom batch =
    (length batch.logs.items ≡ most_turns) × (most_turns ≤ deque_capacity batch.tickets) × (most_turns ≤ deque_capacity batch.replies)

-- a worker has room for the grants of 16 updates, and an empty batch with room for the most turns
pub record HasWorkerRoom {A : Type 0} (room : WorkerRoom A) : Type 0 where
  pub grants : vec_capacity room.grants ≡ 16
  pub batch : HasBatchRoom room.batch
  pub empty : room.batch.tickets.items ≡ []

-- the turns of a batch may be committed by a worker: their tickets and logs, by what the worker's seat has seen
abbrev pub MayBeCommitted : {A : Type 0} → Named → Batch A → Worker A → Type 0
MayBeCommitted n batch worker = AreOffered n.code worker.seat.fresh batch.tickets.items batch.logs.items

-- one more turn may be added: the batch has room for it, and its turns may be committed by a worker
pub record HasPlace {A : Type 0} (n : Named) (batch : Batch A) (worker : Worker A) : Type 0 where
  pub room : HasBatchRoom batch
  pub few : length batch.tickets.items < most_turns
  pub offered : MayBeCommitted n batch worker

-- The turn of a ticket is too long, by the log behind those of the batch's turns. What was read in it stands in what a seat
-- has seen of the registers.
abbrev pub IsLong : {A : Type 0} → Named → Batch A → TicketView → SeatView → Type 0
IsLong n batch ticket s =
    (log : LogView) → log ≡ slice_index_or batch.logs.items (length batch.tickets.items) log
    → IsNoTurn n.code ticket.state ticket.time log.reads TooLong × GaveAll (IsRead n.code s.fresh) log.reads

-- what comes of a ticket that the batch doesn't get
abbrev pub filling_after : NextRound → Filling
filling_after GoesOn = Enough
filling_after Ends = Over

-- what comes of a ticket: the turns of the batch may be committed, or the run is over
abbrev pub Leads : {A : Type 0} → Named → Filling → Batch A → Worker A → Type 0
Leads n More batch worker = MayBeCommitted n batch worker
Leads n Enough batch worker = MayBeCommitted n batch worker
Leads n Over batch worker = IsOver n worker.seat

-- a ticket that leads on is kept: where the worker had the first tickets in hand before, it has the others after it
abbrev pub KeepsOn : {A : Type 0} → Named → Filling → Worker A → List TicketView → Worker A → List TicketView → Type 0
KeepsOn n More old hand new hand' = KeepsAll n old hand new hand'
KeepsOn n Enough old hand new hand' = KeepsAll n old hand new hand'
KeepsOn n Over old hand new hand' = Unit {0}

-- What a worker counts, of which so many turns were evaluated and aren't committed yet, and of so many tickets that its ends
-- got no evaluation was begun.
abbrev pub IsOpen : {T : Type 0} → SeatView → Owning T → List (Stealing T) → ℕ → ℕ → ℕ → Type 0
IsOpen s owner row evaluations turns tickets =
    HasPositions s × (evaluations < 2 ^ 64 - 1 → seat_turn_count s + turns ≤ evaluations) × (evaluations + tickets ≤ got_by_ends owner row)

-- A worker stays the same worker, and goes on to count: with so many turns and tickets before, and with these after. Its ends got at
-- most so many tickets meanwhile, and each entry that it appended is of one of the turns or of the tickets.
pub record Fills {A : Type 0} (old new : Worker A) (turns tickets taken more left : ℕ) : Type 0 where
  pub worker : new.seat.worker ≡ old.seat.worker
  pub ends : SameEnds old.owner old.row.items new.owner new.row.items
  pub later : ExtendsWorker old new
  pub entries_few : length new.seat.positions + (more + left) ≤ length old.seat.positions + (turns + tickets + taken)
  pub tickets_few : weigh_got (λ ticket. 1) new.owner new.row.items ≤ weigh_got (λ ticket. 1) old.owner old.row.items + taken
  pub counted : IsOpen old.seat old.owner old.row.items old.evaluations turns tickets → IsOpen new.seat new.owner new.row.items new.evaluations more left

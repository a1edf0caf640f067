-- What a worker has, and what its calls keep.
use Rattle.std.specs.Prelude.{◌≡◌, ◌⊎◌, ℕ, zero, suc, ◌+◌, ◌-◌, ◌^◌, ◌<◌, ◌≤◌, List, [], ◌∷◌, ◌++◌, map, length, Option, Some, IfNone, IfSome, IsSome, slice_get}
use Rattle.std.specs.List.{sum_by, AllByRecursion, range_with_len}
use mathlib.Core.List.{IsPrefix}
use Rattle.model.specs.declared.end.End.TheVariants.{Quiet}
use Rattle.model.specs.Runs.{Ends}
use Rattle.design.specs.Compiled.{design_of}
use Rattle.commitgate.specs.Named.{Named}
use Rattle.runstate.specs.Ledger.{entries_of, end_in}
use Rattle.commitgate.specs.Seats.{SeatView, new_seat}
use Rattle.commitgate.specs.Tickets.{TicketView, IsFirstTickets}
use Rattle.commitgate.specs.declared.reply.Grant.{Grant}
use Rattle.commitgate.specs.declared.reply.Reply.{Reply}
use Rattle.commitgate.specs.declared.reply.Reply.TheVariants.{Accepted, Stale, Gone, Stopped, NoMemory}
use Rattle.eventpool.specs.Pools.{IsPool}
use Rattle.commitgate.specs.GateJournals.{Stays}
use Rattle.eventpool.specs.Ends.{Owning, Stealing, owner_card, thief_card}
use Rattle.workers.specs.Counting.{turns_at}
use Rattle.workers.specs.Keeping.{ExtendsWorker, GotNone, GotOne, HasLostNone}
use Rattle.workers.specs.declared.next_round.NextRound.{NextRound}
use Rattle.workers.specs.declared.next_round.NextRound.TheVariants as next_of
use Rattle.workers.specs.declared.worker.Worker.{Worker}

-- what the seat has seen is a journal that stays as it is: the run is stopped, or no event is left
abbrev pub IsOver : Named → SeatView → Type 0
IsOver n s = Stays n s.seen × (IsSome (end_in s.seen) ⊎ Ends (design_of n.code) n.limits (entries_of s.seen) Quiet)

-- a worker that doesn't go on has seen that the run is over
abbrev pub OverUnless : Named → NextRound → SeatView → Type 0
OverUnless n next s = next ≡ next_of.Ends → IsOver n s

-- the positions of the seat's entries are positions of the journal that it has seen
abbrev pub HasPositions : SeatView → Type 0
HasPositions s = AllByRecursion (λ p. p < length (entries_of s.seen)) s.positions

-- how many turns the seat appended
abbrev pub seat_turn_count : SeatView → ℕ
seat_turn_count s = turns_at (entries_of s.seen) s.positions

-- the seat goes on, and has appended so many more turns, and at most so many more entries
pub record Goes (turns entries : ℕ) (old new : SeatView) : Type 0 where
  pub worker : new.worker ≡ old.worker
  pub seen : IsPrefix old.seen new.seen
  pub positions : IsPrefix old.positions new.positions
  pub few : length new.positions ≤ length old.positions + entries
  pub has_positions : HasPositions old → HasPositions new
  pub counted : HasPositions old → seat_turn_count new ≡ seat_turn_count old + turns

-- the tickets that an answer of the gate gives: those that the entry made, or the one that comes back
abbrev pub tickets_in : {A : Type 0} → Reply A → List TicketView
tickets_in (Accepted grant) = grant.tickets.items
tickets_in (Stale register back) = back ∷ []
tickets_in Gone = []
tickets_in (Stopped why) = []
tickets_in (NoMemory back) = []

-- the tickets that several answers give, in order
abbrev pub tickets_of : {A : Type 0} → List (Reply A) → List TicketView
tickets_of [] = []
tickets_of (reply ∷ replies) = tickets_in reply ++ tickets_of replies

-- the tickets of several grants, in order
abbrev pub granted_by : {A : Type 0} → List (Grant A) → List TicketView
granted_by [] = []
granted_by (grant ∷ grants) = grant.tickets.items ++ granted_by grants

-- the ticket is settled: its turn stands in the journal, it comes back, or it was gone
abbrev pub IsSettled : {A : Type 0} → Reply A → Type 0
IsSettled (Accepted grant) = Unit {0}
IsSettled (Stale register back) = Unit {0}
IsSettled Gone = Unit {0}
IsSettled (Stopped why) = ⊥
IsSettled (NoMemory back) = ⊥

module _ {T : Type 0} where
  -- how many tickets these ends got
  abbrev pub got_by_ends : Owning T → List (Stealing T) → ℕ
  got_by_ends owner row = length owner.taken + sum_by (λ t. length t.stolen) row

  -- only tickets were put, behind the others
  abbrev pub OnlyPuts : Owning T → Owning T → Type 0
  OnlyPuts old new = (owner_card new ≡ owner_card old) × (new.taken ≡ old.taken) × IsPrefix old.put new.put

  -- the ends are still these ends
  abbrev pub SameEnds : Owning T → List (Stealing T) → Owning T → List (Stealing T) → Type 0
  SameEnds owner row owner' row' = (owner_card owner' ≡ owner_card owner) × (map thief_card row' ≡ map thief_card row)

  -- The seat's positions are positions of the journal that it has seen; each turn that it appended was evaluated, where the
  -- number isn't the greatest; and each evaluation was of a ticket that these ends got.
  abbrev pub IsCounted : SeatView → Owning T → List (Stealing T) → ℕ → Type 0
  IsCounted s owner row evaluations =
      HasPositions s × (evaluations < 2 ^ 64 - 1 → seat_turn_count s ≤ evaluations) × (evaluations ≤ got_by_ends owner row)

  -- the same, and of one more ticket that these ends got no evaluation was begun
  abbrev pub IsReady : SeatView → Owning T → List (Stealing T) → ℕ → Type 0
  IsReady s owner row evaluations =
      HasPositions s × (evaluations < 2 ^ 64 - 1 → seat_turn_count s ≤ evaluations) × (evaluations + 1 ≤ got_by_ends owner row)

-- Ends looked for a ticket: they are still these ends, and nothing was put. They got one more ticket, the one that was found, and none where none was.
pub record LookFor {T : Type 0} (owner : Owning T) (row : List (Stealing T)) (owner' : Owning T) (row' : List (Stealing T)) (found : Option T) : Type 0 where
  pub ends : SameEnds owner row owner' row'
  pub some : IfSome found (λ _. got_by_ends owner' row' ≡ got_by_ends owner row + 1)
  pub none : IfNone found (got_by_ends owner' row' ≡ got_by_ends owner row)
  pub got : IfSome found (GotOne owner row owner' row')
  pub same : IfNone found (GotNone owner row owner' row')
  pub put : owner'.put ≡ owner.put

-- a worker with a ticket stays the same worker, and counts its evaluation
pub record ServesTicket {A : Type 0} (old new : Worker A) : Type 0 where
  pub worker : new.seat.worker ≡ old.seat.worker
  pub ends : SameEnds old.owner old.row.items new.owner new.row.items
  pub counted : IsReady old.seat old.owner old.row.items old.evaluations → IsCounted new.seat new.owner new.row.items new.evaluations

-- a worker stays the same worker, and goes on to count what it does
pub record Works {A : Type 0} (old new : Worker A) : Type 0 where
  pub worker : new.seat.worker ≡ old.seat.worker
  pub ends : SameEnds old.owner old.row.items new.owner new.row.items
  pub counted : IsCounted old.seat old.owner old.row.items old.evaluations → IsCounted new.seat new.owner new.row.items new.evaluations

-- A worker that came to its end: what it had seen, appended, put and got it still has, with more behind it, and before its last round it lost
-- no ticket.
pub record IsDoneWorker {A : Type 0} (n : Named) (old new : Worker A) : Type 0 where
  pub works : Works old new
  pub later : ExtendsWorker old new
  pub kept : HasLostNone n old new
  pub over : IsOver n new.seat

-- workers, each with what became of it
abbrev pub AreDone : {A : Type 0} → Named → List (Worker A) → List (Worker A) → Type 0
AreDone n [] [] = Unit {0}
AreDone n (w ∷ ws) (v ∷ vs) = IsDoneWorker n w v × AreDone n ws vs
AreDone n _ _ = ⊥

-- the owners are the same ends, and have taken the same
abbrev pub IsFixed : {T : Type 0} → List (Owning T) → List (Owning T) → Type 0
IsFixed old new = (map owner_card new ≡ map owner_card old) × (map (λ o. o.taken) new ≡ map (λ o. o.taken) old)

-- every n-th of some tickets, where so many stand before the first of them
abbrev pub every : {T : Type 0} → ℕ → ℕ → List T → List T
every n skipped [] = []
every n zero (x ∷ xs) = x ∷ every n (n - 1) xs
every n (suc skipped) (x ∷ xs) = every n skipped xs

-- of n owners each was put every n-th of the tickets, in order, from the one with its own number on
abbrev pub AreDealtRoundRobin : {T : Type 0} → List (Owning T) → List T → List (Owning T) → Type 0
AreDealtRoundRobin {T} old tickets new =
    (w : ℕ) (o : Owning T) → slice_get old w ≡ Some o → slice_get new w ≡ Some (record o { put = o.put ++ every (length old) w tickets })

-- The workers of a run that begins: each has its seat, in order, with nothing seen; their ends of the deques are those of
-- one pool; nothing was taken, stolen or evaluated; and of the first tickets of all processes each worker was put every n-th, from the one
-- with its own number on.
pub record AreBegun {A : Type 0} (n : Named) (workers : List (Worker A)) : Type 0 where
  pub seats : map (λ w. w.seat) workers ≡ map (new_seat n.code) (range_with_len 0 n.workers)
  pub pool : IsPool (map (λ w. w.owner) workers) (map (λ w. w.row) workers)
  pub count : length workers ≡ n.workers
  pub counted : AllByRecursion (λ w. IsCounted w.seat w.owner w.row.items w.evaluations) workers
  pub first : List TicketView
  pub are_first : IsFirstTickets n.code first
  pub placed : (w : ℕ) (x : Worker A) → slice_get workers w ≡ Some x → x.owner.put ≡ every n.workers w first

-- That a worker loses no ticket, by event number: what it puts into its deque is what was placed there, what entries of its own granted, and what
-- goes back; and what its ends get stands in turns of its own, goes back or is gone.
use Rattle.std.specs.Prelude.{◌≡◌, ℕ, ◌+◌, ◌<◌, ◌≤◌, ◌==◌, if◌then◌else◌, List, [], ◌∷◌, length, take, Option, Some, None, slice_get}
use Rattle.std.specs.List.{AllByRecursion}
use mathlib.Core.List.{IsPrefix}
use Rattle.model.specs.declared.entry.Entry.{Entry}
use Rattle.model.specs.declared.entry.Entry.TheVariants.{Turn, Update, ActivateInactive, ActivateNba, ActivateMonitor, Advance}
use Rattle.model.specs.States.{Event, State}
use Rattle.model.specs.Runs.{after}
use Rattle.design.specs.Compiled.{design_of}
use Rattle.runstate.specs.Ledger.{Ledger, entries_of}
use Rattle.commitgate.specs.Named.{Named}
use Rattle.commitgate.specs.Seats.{SeatView}
use Rattle.commitgate.specs.Tickets.{TicketView}
use Rattle.commitgate.specs.GateJournals.{IsLedger, After, IsActiveTicket, made_active}
use Rattle.eventpool.specs.Ends.{Owning, Stealing}
use Rattle.workers.specs.declared.worker.Worker.{Worker}

-- what some things weigh together
abbrev pub weigh : {T : Type 0} → (T → ℕ) → List T → ℕ
weigh weight [] = 0
weigh weight (x ∷ xs) = weight x + weigh weight xs

-- the same of the tickets that these ends got
abbrev pub weigh_got : {T : Type 0} → (T → ℕ) → Owning T → List (Stealing T) → ℕ
weigh_got weight owner row = weigh weight owner.taken + weigh (λ t. weigh weight t.stolen) row

module _ {T : Type 0} where
  -- the thieves of a row stole one more ticket, this one, by whatever tickets weigh
  abbrev pub StoleOne : List (Stealing T) → List (Stealing T) → T → Type 0
  StoleOne old new ticket = (weight : T → ℕ) → weigh (λ t. weigh weight t.stolen) new ≡ weigh (λ t. weigh weight t.stolen) old + weight ticket

  -- they stole none
  abbrev pub StoleNone : List (Stealing T) → List (Stealing T) → Type 0
  StoleNone old new = (weight : T → ℕ) → weigh (λ t. weigh weight t.stolen) new ≡ weigh (λ t. weigh weight t.stolen) old

  -- the ends got one more ticket, this one
  abbrev pub GotOne : Owning T → List (Stealing T) → Owning T → List (Stealing T) → T → Type 0
  GotOne owner row owner' row' ticket = (weight : T → ℕ) → weigh_got weight owner' row' ≡ weigh_got weight owner row + weight ticket

  -- they got none
  abbrev pub GotNone : Owning T → List (Stealing T) → Owning T → List (Stealing T) → Type 0
  GotNone owner row owner' row' = (weight : T → ℕ) → weigh_got weight owner' row' ≡ weigh_got weight owner row

-- 1 for a ticket of this event
abbrev pub is_for : ℕ → TicketView → ℕ
is_for event ticket = if ticket.event == event then 1 else 0

-- how many of these tickets are for an event
abbrev pub tickets_for : ℕ → List TicketView → ℕ
tickets_for event tickets = weigh (is_for event) tickets

-- 1 for the turn of this event
abbrev pub is_turn : ℕ → Entry → ℕ
is_turn event (Turn number) = if number == event then 1 else 0
is_turn event (Update number) = 0
is_turn event ActivateInactive = 0
is_turn event ActivateNba = 0
is_turn event ActivateMonitor = 0
is_turn event (Advance time) = 0

-- 1 where this entry, if there is one, is the turn of the event, else 0
abbrev pub is_turn_at : ℕ → Option Entry → ℕ
is_turn_at event None = 0
is_turn_at event (Some entry) = is_turn event entry

-- 1 where the entry at this place of a journal is the turn of the event
abbrev pub turned_at : ℕ → List Entry → ℕ → ℕ
turned_at event journal place = is_turn_at event (slice_get journal place)

-- the evaluations that are active after, and weren't before
abbrev pub made_between : Option State → Option State → List Event
made_between (Some from) (Some to) = made_active from.active to.active
made_between (Some from) None = []
made_between None to = []

-- how many evaluations with this event's number the entry at this place of a journal made active
abbrev pub granted_at : Named → ℕ → List Entry → ℕ → ℕ
granted_at n event journal place =
    weigh (λ (e : Event). if e.0 == event then 1 else 0)
    (made_between (after (design_of n.code) (take place journal)) (after (design_of n.code) (take (place + 1) journal)))

-- the sum over the places of a seat's own entries in the journal that it has seen
abbrev pub over_own : (List Entry → ℕ → ℕ) → SeatView → ℕ
over_own weight s = weigh (weight (entries_of s.seen)) s.positions

-- how many entries of the seat's own are the turn of this event
abbrev pub turn_entries_of_event : ℕ → SeatView → ℕ
turn_entries_of_event event s = over_own (turned_at event) s

-- how many evaluations with this event's number the seat's own entries made active
abbrev pub granted : Named → ℕ → SeatView → ℕ
granted n event s = over_own (granted_at n event) s

-- at some moment no active evaluation had the ticket's event, process, remainder and time: so after a beginning of what was seen
pub record WasGone (n : Named) (seen : Ledger) (ticket : TicketView) : Type 0 where
  pub ledger : Ledger
  pub begins : IsPrefix ledger seen
  pub is_ledger : IsLedger n ledger
  pub gone : After n ledger (λ s. IsActiveTicket n.code s ticket → ⊥)

-- Of a worker none is lost, where these tickets are to be put into its deque and these are in hand. Of each event there are as many tickets that
-- were put into its deque, or are to be, as had been placed in it before it began, as entries of its own granted, and as went back.
-- And of each event its ends got as many tickets as there are turns in entries of its own, and tickets that went back, were gone, or are in hand.
pub record LosesNone (n : Named) (placed : List TicketView) (s : SeatView) (owner : Owning TicketView) (row : List (Stealing TicketView)) (due hand : List TicketView) : Type 0 where
  pub has_positions : AllByRecursion (λ p. p < length (entries_of s.seen)) s.positions
  pub back : List TicketView
  pub gone : List TicketView
  pub were_gone : AllByRecursion (WasGone n s.seen) gone
  pub puts : (event : ℕ) → tickets_for event owner.put + tickets_for event due ≡ tickets_for event placed + granted n event s + tickets_for event back
  pub gots : (event : ℕ) → weigh_got (is_for event) owner row ≡ turn_entries_of_event event s + tickets_for event back + tickets_for event gone + tickets_for event hand

-- A call that goes on loses none: where the worker had the first tickets in hand before, it has the others after it.
abbrev pub KeepsTickets : Named → SeatView → Owning TicketView → List TicketView → SeatView → Owning TicketView → List TicketView → Type 0
KeepsTickets n s owner hand s' owner' hand' =
    (placed : List TicketView) (row : List (Stealing TicketView)) → LosesNone n placed s owner row [] hand → LosesNone n placed s' owner' row [] hand'

-- the same of a worker
pub record KeepsAll {A : Type 0} (n : Named) (old : Worker A) (hand : List TicketView) (new : Worker A) (hand' : List TicketView) : Type 0 where
  pub all : (placed : List TicketView) → LosesNone n placed old.seat old.owner old.row.items [] hand → LosesNone n placed new.seat new.owner new.row.items [] hand'

-- A worker that went on: it has seen, appended and put all that it had, with more behind it, and its ends got what they had got, with
-- more tickets.
pub record ExtendsWorker {A : Type 0} (old new : Worker A) : Type 0 where
  pub seen : IsPrefix old.seat.seen new.seat.seen
  pub positions : IsPrefix old.seat.positions new.seat.positions
  pub put : IsPrefix old.owner.put new.owner.put
  pub got : (weight : TicketView → ℕ) → weigh_got weight old.owner old.row.items ≤ weigh_got weight new.owner new.row.items

-- It appended at most so many entries meanwhile, and got at most so many tickets.
pub record Within {A : Type 0} (entries tickets : ℕ) (old new : Worker A) : Type 0 where
  pub later : ExtendsWorker old new
  pub entries_few : length new.seat.positions ≤ length old.seat.positions + entries
  pub tickets_few : weigh_got (λ ticket. 1) new.owner new.row.items ≤ weigh_got (λ ticket. 1) old.owner old.row.items + tickets

-- the most entries that a worker appends, and tickets that it gets, in its last round
abbrev pub most_last : ℕ
most_last = 16

-- A worker that came to its end had lost no ticket when its last round began, and in that round it appended at most 16 entries and got at
-- most 16 tickets.
abbrev pub HasLostNone : {A : Type 0} → Named → Worker A → Worker A → Type 0
HasLostNone {A} n old new =
    (placed : List TicketView) → LosesNone n placed old.seat old.owner old.row.items [] []
    → (last : Worker A) × LosesNone n placed last.seat last.owner last.row.items [] [] × Within most_last most_last last new

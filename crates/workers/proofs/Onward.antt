-- A worker goes on: what it had stands at the beginning of what it has.
use Rattle.std.proofs.Common.{◌≡◌, ℕ, ◌+◌, ◌≤◌, List, [], ◌∷◌, ◌++◌, length, refl, sym, ap, ◌∙◌, arith, append-nil}
use Rattle.commitgate.specs.Seats.{SeatView}
use Rattle.commitgate.specs.Tickets.{TicketView}
use Rattle.eventpool.specs.Ends.{Owning, Stealing}
use Rattle.workers.specs.declared.worker.Worker.{Worker}
use Rattle.workers.specs.Keeping.{weigh, weigh_got, GotOne, GotNone, ExtendsWorker, Within}
use Rattle.workers.specs.WorkerInvariant.{Goes, OnlyPuts}
use Rattle.workers.proofs.Seats.{begins_more}
use Rattle.workers.proofs.Told.{GoesOnce}

module _ {A : Type 0} where
  -- ends into which tickets were put got what they had got
  pub got_puts_all : (a b : Worker A) (weight : TicketView → ℕ) → OnlyPuts a.owner b.owner → b.row.items ≡ a.row.items
      → weigh_got weight b.owner b.row.items ≡ weigh_got weight a.owner a.row.items
  got_puts_all a b weight puts row = (λ i. weigh weight (puts.1 i) + weigh (λ (t : Stealing TicketView). weigh weight t.stolen) (row i))

  pub later_more : (a b c : Worker A) → ExtendsWorker a b → ExtendsWorker b c → ExtendsWorker a c
  later_more a b c f g = record {
    seen = begins_more a.seat.seen b.seat.seen c.seat.seen f.seen g.seen;
    positions = begins_more a.seat.positions b.seat.positions c.seat.positions f.positions g.positions;
    put = begins_more a.owner.put b.owner.put c.owner.put f.put g.put;
    got = λ weight. let p = f.got weight in let q = g.got weight in omega (arith, p, q);
  }

  -- a worker that puts tickets alone
  pub later_puts : {turns entries : ℕ} (a b : Worker A) → Goes turns entries a.seat b.seat → OnlyPuts a.owner b.owner → b.row.items ≡ a.row.items → ExtendsWorker a b
  later_puts a b goes puts row = record {
    seen = goes.seen;
    positions = goes.positions;
    put = puts.2;
    got = λ weight. let g = got_puts_all a b weight puts row in omega (arith, g);
  }

  -- a worker that got a ticket
  pub later_taken : (a b : Worker A) (ticket : TicketView) → b.seat ≡ a.seat → b.owner.put ≡ a.owner.put
      → GotOne a.owner a.row.items b.owner b.row.items ticket → ExtendsWorker a b
  later_taken a b ticket seat put got = record {
    seen = ([], append-nil a.seat.seen ∙ ap (λ (s : SeatView). s.seen) (sym seat));
    positions = ([], append-nil a.seat.positions ∙ ap (λ (s : SeatView). s.positions) (sym seat));
    put = ([], append-nil a.owner.put ∙ sym put);
    got = λ weight. let g = got weight in omega (arith, g);
  }

  pub within_more : (a b c : Worker A) (e t f u : ℕ) → Within e t a b → Within f u b c → Within (e + f) (t + u) a c
  within_more a b c e t f u p q = record {
    later = later_more a b c p.later q.later;
    entries_few = (let x = p.entries_few in let y = q.entries_few in omega (arith, x, y));
    tickets_few = (let x = p.tickets_few in let y = q.tickets_few in omega (arith, x, y));
  }

  pub within_most : (a b : Worker A) (e t f u : ℕ) → e ≤ f → t ≤ u → Within e t a b → Within f u a b
  within_most a b e t f u le lt p = record {
    later = p.later;
    entries_few = (let x = p.entries_few in omega (arith, x, le));
    tickets_few = (let x = p.tickets_few in omega (arith, x, lt));
  }

  pub within_puts : (a b : Worker A) (turns entries : ℕ) → Goes turns entries a.seat b.seat → OnlyPuts a.owner b.owner → b.row.items ≡ a.row.items → Within entries 0 a b
  within_puts a b turns entries goes puts row = record {
    later = later_puts a b goes puts row;
    entries_few = goes.few;
    tickets_few = (let g = got_puts_all a b (λ ticket. 1) puts row in omega (arith, g));
  }

  pub within_taken : (a b : Worker A) (ticket : TicketView) → b.seat ≡ a.seat → b.owner.put ≡ a.owner.put
      → GotOne a.owner a.row.items b.owner b.row.items ticket → Within 0 1 a b
  within_taken a b ticket seat put got = record {
    later = later_taken a b ticket seat put got;
    entries_few = (let l : length b.seat.positions ≡ length a.seat.positions = ap (λ (s : SeatView). length s.positions) seat in omega (arith, l));
    tickets_few = (let g = got (λ ticket. 1) in omega (arith, g));
  }

  -- a worker that got none
  pub within_none : (a b : Worker A) → b.seat ≡ a.seat → b.owner.put ≡ a.owner.put
      → GotNone a.owner a.row.items b.owner b.row.items → Within 0 0 a b
  within_none a b seat put got = record {
    later = record {
      seen = ([], append-nil a.seat.seen ∙ ap (λ (s : SeatView). s.seen) (sym seat));
      positions = ([], append-nil a.seat.positions ∙ ap (λ (s : SeatView). s.positions) (sym seat));
      put = ([], append-nil a.owner.put ∙ sym put);
      got = λ weight. let g = got weight in omega (arith, g);
    };
    entries_few = (let l : length b.seat.positions ≡ length a.seat.positions = ap (λ (s : SeatView). length s.positions) seat in omega (arith, l));
    tickets_few = (let g = got (λ ticket. 1) in omega (arith, g));
  }

  pub within_self : (a : Worker A) → Within 0 0 a a
  within_self a = within_none a a refl refl (λ weight. refl)

  -- a ticket was served by a worker that put the new ones
  pub within_one : (a b : Worker A) → GoesOnce a.seat b.seat → OnlyPuts a.owner b.owner → b.row.items ≡ a.row.items → Within 1 0 a b
  within_one a b goes puts row = within_most a b goes.0 0 1 0 goes.1 (omega arith) (within_puts a b goes.0 goes.0 goes.2 puts row)

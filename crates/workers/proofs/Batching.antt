-- What a worker counts while it fills a batch and commits it.
use Rattle.std.proofs.Common.{◌≡◌, ℕ, ◌+◌, ◌-◌, ◌^◌, ◌<◌, ◌≤◌, min, List, [], ◌∷◌, ◌++◌, length, set, get_or, map, ap, ◌∙◌, arith, subst, sym, refl}
use Rattle.std.proofs.lemmas.List.{get_or-set_same}
use Rattle.logic4.specs.Vector.{Vector}
use Rattle.design.specs.Compiled.{Compiled}
use Rattle.turn.specs.TurnLogs.{LogView}
use Rattle.turn.specs.TurnAnswers.{IsTurnLog}
use Rattle.turn.specs.Reads.{GaveAll}
use Rattle.runstate.specs.Histories.{IsRead}
use Rattle.commitgate.specs.Tickets.{TicketView, most_tries}
use Rattle.commitgate.specs.Batches.{AreOffered}
use Rattle.eventpool.specs.Ends.{Owning, Stealing, thief_card}
use Rattle.commitgate.specs.Seats.{SeatView}
use Rattle.commitgate.specs.Named.{Named}
use Rattle.workers.specs.declared.batch.Batch.{Batch}
use Rattle.workers.specs.declared.next_round.NextRound.{NextRound}
use Rattle.workers.specs.declared.next_round.NextRound.TheVariants.{GoesOn, Ends}
use Rattle.workers.specs.Batching.{IsOpen, Fills, Leads, filling_after}
use Rattle.workers.specs.WorkerInvariant.{seat_turn_count, Goes, OnlyPuts, SameEnds, OverUnless, got_by_ends, ServesTicket}
use Rattle.workers.specs.declared.worker.Worker.{Worker}
use Rattle.workers.specs.Keeping.{weigh_got, GotOne, ExtendsWorker, Within}
use Rattle.workers.proofs.Rounds.{got_kept}
use Rattle.workers.proofs.Onward.{got_puts_all, later_puts, later_taken, later_more}

-- one more turn is offered, with its log behind those of the others
pub offered_more : (code : Compiled) (fresh : List (List Vector)) (tickets : List TicketView) (ticket : TicketView) (logs : List LogView) (log : LogView) → length tickets < length logs
    → AreOffered code fresh tickets logs → ticket.tries < most_tries → IsTurnLog code ticket.state ticket.time log → GaveAll (IsRead code fresh) log.reads
    → AreOffered code fresh (tickets ++ ticket ∷ []) (set logs (length tickets) log)
offered_more code fresh [] ticket [] log lt o tries turn gave = absurd (omega arith)
offered_more code fresh [] ticket (l ∷ ls) log lt o tries turn gave = (tries, turn, gave, tt)
offered_more code fresh (t ∷ ts) ticket [] log lt o tries turn gave = absurd o
offered_more code fresh (t ∷ ts) ticket (l ∷ ls) log lt o tries turn gave = (o.0, o.1, o.2, offered_more code fresh ts ticket ls log (omega arith) o.3 tries turn gave)

-- a log behind those of the tickets counts for nothing
pub offered_kept : (code : Compiled) (fresh : List (List Vector)) (tickets : List TicketView) (logs : List LogView) (log : LogView)
    → AreOffered code fresh tickets logs → AreOffered code fresh tickets (set logs (length tickets) log)
offered_kept code fresh [] logs log o = tt
offered_kept code fresh (t ∷ ts) [] log o = absurd o
offered_kept code fresh (t ∷ ts) (l ∷ ls) log o = (o.0, o.1, o.2, offered_kept code fresh ts ls log o.3)

-- what is said of a log holds of what is read at the place where the log was written
pub log_written : (P : LogView → Type 0) (logs : List LogView) (place at : ℕ) (new : LogView) → place ≡ at → at < length logs → P new
    → (log : LogView) → log ≡ get_or (set logs place new) at log → P log
log_written P logs place at new same lt holds log is =
    subst P (sym (is ∙ (λ i. get_or (set logs (same i) new) at log) ∙ get_or-set_same logs at new log lt)) holds

-- what is said of the log at a place holds of the log that is found there in logs that were kept
pub log_found : (P : LogView → Type 0) (logs kept : List LogView) (place at : ℕ) (log : LogView) → kept ≡ logs → at ≡ place
    → ((l : LogView) → l ≡ get_or logs place l → P l) → log ≡ get_or kept at log → P log
log_found P logs kept place at log same is holds found = holds log (found ∙ (λ i. get_or (same i) (is i) log))

module _ {T : Type 0} where
  -- no evaluation is counted, and so many of the turns that wait are appended
  open_goes : (s s' : SeatView) (o o1 : Owning T) (r r1 : List (Stealing T)) (e turns tickets appended left : ℕ) → got_by_ends o1 r1 ≡ got_by_ends o r
      → Goes appended appended s s' → appended + left ≤ turns → IsOpen s o r e turns tickets → IsOpen s' o1 r1 e left 0
  open_goes s s' o o1 r r1 e turns tickets appended left got goes few c =
      let t = goes.counted c.0 in (
        goes.has_positions c.0,
        (λ lt. let p = c.1 lt in omega (arith, p, t, few)),
        (let q = c.2 in omega (arith, q, got)),
      )

  -- one more evaluation is counted, of a ticket in hand, and its turn waits, or doesn't
  open_begun : (s s' : SeatView) (o o1 : Owning T) (r r1 : List (Stealing T)) (e e' turns more : ℕ) → got_by_ends o1 r1 ≡ got_by_ends o r
      → Goes 0 0 s s' → e' ≡ min (e + 1) (2 ^ 64 - 1) → more ≤ turns + 1 → IsOpen s o r e turns 1 → IsOpen s' o1 r1 e' more 0
  open_begun s s' o o1 r r1 e e' turns more got goes one few c =
      let t = goes.counted c.0 in (
        goes.has_positions c.0,
        (λ lt. let p = c.1 (omega (arith, one, lt)) in omega (arith, p, t, one, few, lt)),
        (let q = c.2 in omega (arith, q, got, one)),
      )

module _ {A : Type 0} where
  got_puts : (a b : Worker A) → OnlyPuts a.owner b.owner → b.row.items ≡ a.row.items → got_by_ends b.owner b.row.items ≡ got_by_ends a.owner a.row.items
  got_puts a b puts row = (λ i. got_by_ends b.owner (row i)) ∙ got_kept a.owner b.owner a.row.items puts

  -- a worker that puts tickets, and whose turns were appended
  pub fills_goes : (a b : Worker A) (turns tickets appended left : ℕ) → Goes appended appended a.seat b.seat → appended + left ≤ turns → OnlyPuts a.owner b.owner
      → b.row.items ≡ a.row.items → b.evaluations ≡ a.evaluations → Fills a b turns tickets 0 left 0
  fills_goes a b turns tickets appended left goes few puts row same = record {
    worker = goes.worker;
    ends = (puts.0, ap (map thief_card) row);
    later = later_puts a b goes puts row;
    entries_few = (let f = goes.few in omega (arith, f, few));
    tickets_few = (let g = got_puts_all a b (λ ticket. 1) puts row in omega (arith, g));
    counted = λ c. rw same (open_goes a.seat b.seat a.owner b.owner a.row.items b.row.items a.evaluations turns tickets appended left (got_puts a b puts row) goes few c);
  }

  -- a worker that begins with a ticket in hand
  pub fills_begun : (a b : Worker A) (turns more : ℕ) → Goes 0 0 a.seat b.seat → b.evaluations ≡ min (a.evaluations + 1) (2 ^ 64 - 1) → more ≤ turns + 1
      → OnlyPuts a.owner b.owner → b.row.items ≡ a.row.items → Fills a b turns 1 0 more 0
  fills_begun a b turns more goes one few puts row = record {
    worker = goes.worker;
    ends = (puts.0, ap (map thief_card) row);
    later = later_puts a b goes puts row;
    entries_few = (let f = goes.few in omega (arith, f, few));
    tickets_few = (let g = got_puts_all a b (λ ticket. 1) puts row in omega (arith, g));
    counted = open_begun a.seat b.seat a.owner b.owner a.row.items b.row.items a.evaluations b.evaluations turns more (got_puts a b puts row) goes one few;
  }

  -- a worker that got a ticket, and goes on with it
  pub fills_taken : (a b c : Worker A) (ticket : TicketView) (turns more left : ℕ) → b.seat ≡ a.seat → SameEnds a.owner a.row.items b.owner b.row.items
      → got_by_ends b.owner b.row.items ≡ got_by_ends a.owner a.row.items + 1 → b.evaluations ≡ a.evaluations → b.owner.put ≡ a.owner.put
      → GotOne a.owner a.row.items b.owner b.row.items ticket
      → Fills b c turns 1 0 more left → Fills a c turns 0 1 more left
  fills_taken a b c ticket turns more left seat ends got same put all fills = record {
    worker = fills.worker ∙ ap (λ s. s.worker) seat;
    ends = (fills.ends.0 ∙ ends.0, fills.ends.1 ∙ ends.1);
    later = later_more a b c (later_taken a b ticket seat put all) fills.later;
    entries_few = (let f = fills.entries_few in let l : length b.seat.positions ≡ length a.seat.positions = ap (λ (s : SeatView). length s.positions) seat in omega (arith, f, l));
    tickets_few = (let f = fills.tickets_few in let g = all (λ ticket. 1) in omega (arith, f, g));
    counted = λ k. fills.counted (
      rw seat k.0,
      (λ lt. let t : seat_turn_count b.seat ≡ seat_turn_count a.seat = ap seat_turn_count seat in let p = k.1 (omega (arith, same, lt)) in omega (arith, p, t, same)),
      (let q = k.2 in omega (arith, q, got, same)),
    );
  }

  pub fills_more : (a b c : Worker A) (turns tickets taken got more left most last : ℕ) → Fills a b turns tickets taken more left → Fills b c more left got most last
      → Fills a c turns tickets (taken + got) most last
  fills_more a b c turns tickets taken got more left most last f g = record {
    worker = g.worker ∙ f.worker;
    ends = (g.ends.0 ∙ f.ends.0, g.ends.1 ∙ f.ends.1);
    later = later_more a b c f.later g.later;
    entries_few = (let p = f.entries_few in let q = g.entries_few in omega (arith, p, q));
    tickets_few = (let p = f.tickets_few in let q = g.tickets_few in omega (arith, p, q));
    counted = λ x. g.counted (f.counted x);
  }

  -- the same, by a worker that goes on without the ticket
  pub fills_begun_more : (a b c : Worker A) (turns more most : ℕ) → Fills b c more 0 0 most 0 → Goes 0 0 a.seat b.seat → b.evaluations ≡ min (a.evaluations + 1) (2 ^ 64 - 1)
      → more ≤ turns + 1 → OnlyPuts a.owner b.owner → b.row.items ≡ a.row.items → Fills a c turns 1 0 most 0
  fills_begun_more a b c turns more most f goes one few puts row = fills_more a b c turns 1 0 0 more 0 most 0 (fills_begun a b turns more goes one few puts row) f

  -- what comes of a ticket of which the gate was told: the batch is empty, or the run is over
  pub leads_told : (n : Named) (after : NextRound) (batch : Batch A) (w : Worker A) → (after ≡ GoesOn → batch.tickets.items ≡ []) → OverUnless n after w.seat
      → Leads n (filling_after after) batch w
  leads_told n GoesOn batch w empty over = subst (λ (l : List TicketView). AreOffered n.code w.seat.fresh l batch.logs.items) (sym (empty refl)) tt
  leads_told n Ends batch w empty over = over refl

  -- a ticket is served where a batch that it began was filled and committed
  pub serves_fills : (a b : Worker A) (taken left : ℕ) → Fills a b 0 1 taken left 0 → ServesTicket a b
  serves_fills a b taken left f = record {
    worker = f.worker;
    ends = f.ends;
    counted = λ k.
        let c = f.counted (k.0, (λ lt. let p = k.1 lt in omega (arith, p)), k.2) in
        (c.0, (λ lt. let p = c.1 lt in omega (arith, p)), (let q = c.2 in omega (arith, q)));
  }

  pub within_fills : (a b : Worker A) (taken left : ℕ) → taken ≤ 15 → Fills a b 0 1 taken left 0 → Within 16 15 a b
  within_fills a b taken left few f = record {
    later = f.later;
    entries_few = (let p = f.entries_few in omega (arith, p, few));
    tickets_few = (let p = f.tickets_few in omega (arith, p, few));
  }

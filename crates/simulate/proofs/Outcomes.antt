-- What a run leaves, from what its workers did.
use Rattle.std.proofs.Common.{◌≡◌, ℕ, zero, suc, ◌+◌, ◌-◌, ◌^◌, ◌<◌, ◌≤◌, ◌⊎◌, true, false, true≢false, List, [], ◌∷◌, ◌++◌, map, length, sum, sum_by, Option, Some, None, refl, sym, ap, ◌∙◌, subst, arith, inl, inr, ⊎_elim}
use Rattle.std.specs.Prelude.{IsSome, IsSomeAnd, slice_index_or, take, drop}
use Rattle.std.specs.List.{All, AllByRecursion, range_with_len}
use Rattle.std.specs.Global.{Vec}
use Rattle.std.proofs.lemmas.List.{length-map}
use Rattle.std.proofs.lemmas.List.FromFn.{length-range_with_len}
use mathlib.Core.List.{IsPrefix}
use Rattle.model.specs.declared.entry.Entry.{Entry}
use Rattle.model.specs.declared.entry.Entry.TheVariants.{Turn, Update, ActivateInactive, ActivateNba, ActivateMonitor, Advance}
use Rattle.model.specs.declared.end.Why.{Why}
use Rattle.model.specs.declared.end.End.{End}
use Rattle.model.specs.declared.end.End.TheVariants.{Quiet, Running, Stopped}
use Rattle.model.specs.Design.{Design}
use Rattle.model.specs.States.{State}
use Rattle.model.specs.Runs.{Effect, run, IsLawful, taken, after, is_quiet, Ends}
use Rattle.model.specs.Laws.{times_in}
use Rattle.model.proofs.RunLaws.{events_are_taken_once}
use native.Mathlib.Decide.{dec_lt}
use Rattle.design.specs.Compiled.{Compiled, design_of}
use Rattle.runstate.specs.declared.ledger.Item.TheVariants.{Did, Ended}
use Rattle.commitgate.specs.Named.{Named}
use Rattle.runstate.specs.Ledger.{Ledger, entries_of, end_in, IsEndLast}
use Rattle.commitgate.specs.Seats.{SeatView, new_seat}
use Rattle.commitgate.specs.Tickets.{TicketView, IsFirstTickets}
use Rattle.commitgate.specs.GateJournals.{IsLedger}
use Rattle.commitgate.specs.Closing.{ClosedView, EndsOrRuns, IsEndIn, IsClosedWith, AreAllSeats, occurrences}
use Rattle.eventpool.specs.Ends.{Owning, Stealing, owner_card}
use Rattle.eventpool.specs.Pools.{PoolCounts, cards_of, IsPool, IsUnused}
use Rattle.eventpool.proofs.Cards.{pool_kept}
use Rattle.workers.specs.declared.worker.Worker.{Worker}
use Rattle.workers.specs.Counting.{journal_turn_count, turns_at}
use Rattle.workers.specs.WorkerInvariant.{IsOver, IsCounted, HasPositions, seat_turn_count, AreDone, AreBegun, IsFixed, AreDealtRoundRobin}
use Rattle.model.specs.declared.end.Limits.{Limits}
use Rattle.simulate.specs.Outcomes.{IsOutcome}
use Rattle.workers.proofs.Counting.{turns_add_up}
use Rattle.workers.proofs.Rows.{sum_cons}
use Rattle.workers.proofs.Seats.{turns_begin, entries_begin}
use Rattle.simulate.proofs.Placed.{placed_at, placed_few}

-- an end is the last
end_last : (seen more : Ledger) → IsEndLast (seen ++ more) → IsSome (end_in seen) → more ≡ []
end_last [] more h e = absurd (cc e)
end_last ((k, Did entry) ∷ xs) more h e = end_last xs more h e
end_last ((k, Ended why) ∷ []) more h e = h
end_last ((k, Ended why) ∷ x ∷ xs) more h e = absurd (cc h)

append_none : {X : Type 0} (xs : List X) → xs ++ [] ≡ xs
append_none [] = refl
append_none (x ∷ xs) = ap (λ l. x ∷ l) (append_none xs)

both : (o : Option State) → IsSomeAnd o (λ s. (is_quiet s ≡ true) × (s.finished ≡ false)) → IsSomeAnd o (λ s. (is_quiet s ≡ false) × (s.finished ≡ false)) → ⊥
both None p q = p
both (Some s) p q = true≢false (sym p.0 ∙ q.0)

-- a run of which a worker has seen the end isn't running
pub ended : (n : Named) (s : SeatView) (ledger : Ledger) (entries : List Entry) (end : End) → IsOver n s → IsPrefix s.seen ledger → IsLedger n ledger → entries ≡ entries_of ledger
    → IsEndIn ledger end → EndsOrRuns n entries end → Ends (design_of n.code) n.limits entries end
ended n s ledger entries Quiet over later is same at e = e
ended n s ledger entries (Stopped why) over later is same at e = e
ended n s ledger entries Running over later is same at e =
    let whole : entries ≡ entries_of s.seen = same ∙ over.0 ledger is later in
    absurd (⊎_elim
    (λ (some : IsSome (end_in s.seen)).
    let none : later.0 ≡ [] = end_last s.seen later.0 (subst (λ (l : Ledger). IsEndLast l) (sym later.1) is.last) some in
    let all : ledger ≡ s.seen = sym later.1 ∙ ap (λ l. s.seen ++ l) none ∙ append_none s.seen in
    let off : IsSome {T = Why} None = subst (λ (o : Option Why). IsSome o) (sym (ap end_in all) ∙ at) some in
    absurd (cc off))
    (λ (quiet : Ends (design_of n.code) n.limits (entries_of s.seen) Quiet).
    both (after (design_of n.code) entries)
    (subst (λ l. Ends (design_of n.code) n.limits l Quiet) (sym whole) quiet) e)
    over.1)

once : (design : Design) (journal : List Entry) (event : ℕ) → IsLawful design journal → times_in event (taken journal) ≤ 1
once design journal event h = by (run design journal) refl h
  where
    by : (o : Option Effect) → run design journal ≡ o → IsSome o → times_in event (taken journal) ≤ 1
    by None is h = absurd (cc h)
    by (Some e) is h = (events_are_taken_once design journal e event is).0

few_turns : (journal : List Entry) → journal_turn_count journal ≤ length journal
few_turns [] = omega arith
few_turns (Turn e ∷ es) = let r = few_turns es in omega (arith, r)
few_turns (Update e ∷ es) = let r = few_turns es in omega (arith, r)
few_turns (ActivateInactive ∷ es) = let r = few_turns es in omega (arith, r)
few_turns (ActivateNba ∷ es) = let r = few_turns es in omega (arith, r)
few_turns (ActivateMonitor ∷ es) = let r = few_turns es in omega (arith, r)
few_turns (Advance t ∷ es) = let r = few_turns es in omega (arith, r)

sum_map : {X Y : Type 0} (f : Y → ℕ) (g : X → Y) (xs : List X) → sum_by f (map g xs) ≡ sum_by (λ x. f (g x)) xs
sum_map f g [] = refl
sum_map f g (x ∷ xs) = let a = sum_cons f (g x) (map g xs) in let b = sum_cons (λ y. f (g y)) x xs in let r = sum_map f g xs in omega (arith, a, b, r)

sum_is : (xs : List ℕ) → sum xs ≡ sum_by (λ x. x) xs
sum_is [] = refl
sum_is (x ∷ xs) = let r = sum_is xs in let a = sum_cons (λ (k : ℕ). k) x xs in omega (arith, r, a)

all_tail : {X : Type 0} (P : X → Type 0) (x : X) (xs : List X) → All P (x ∷ xs) → All P xs
all_tail P x xs h k d lt = h (suc k) d (omega arith)

small : (e : ℕ) → (e < 2 ^ 64 - 1) ⊎ (2 ^ 64 - 1 ≤ e)
small e = elim (dec_lt e (2 ^ 64 - 1)) [ yes lt ↦ inl lt | no ge ↦ inr (omega arith) ]

map_map : {X Y Z : Type 0} (f : Y → Z) (g : X → Y) (xs : List X) → map f (map g xs) ≡ map (λ x. f (g x)) xs
map_map f g [] = refl
map_map f g (x ∷ xs) = ap (λ l. f (g x) ∷ l) (map_map f g xs)

range_self : (code : Compiled) (a k : ℕ) → map (λ (s : SeatView). s.worker) (map (new_seat code) (range_with_len a k)) ≡ range_with_len a k
range_self code a zero = refl
range_self code a (suc k) = ap (λ l. a ∷ l) (range_self code (a + 1) k)

module _ {A : Type 0} where
  pub done_length : (n : Named) (xs ys : List (Worker A)) → AreDone n xs ys → length ys ≡ length xs
  done_length n [] [] h = refl
  done_length n [] (y ∷ ys) h = absurd h
  done_length n (x ∷ xs) [] h = absurd h
  done_length n (x ∷ xs) (y ∷ ys) h = ap suc (done_length n xs ys h.1)

  done_workers : (n : Named) (xs ys : List (Worker A)) → AreDone n xs ys → map (λ w. w.seat.worker) ys ≡ map (λ w. w.seat.worker) xs
  done_workers n [] [] h = refl
  done_workers n [] (y ∷ ys) h = absurd h
  done_workers n (x ∷ xs) [] h = absurd h
  done_workers n (x ∷ xs) (y ∷ ys) h = (λ i. h.0.works.worker i ∷ done_workers n xs ys h.1 i)

  done_owners : (n : Named) (xs ys : List (Worker A)) → AreDone n xs ys → map owner_card (map (λ w. w.owner) ys) ≡ map owner_card (map (λ w. w.owner) xs)
  done_owners n [] [] h = refl
  done_owners n [] (y ∷ ys) h = absurd h
  done_owners n (x ∷ xs) [] h = absurd h
  done_owners n (x ∷ xs) (y ∷ ys) h = (λ i. h.0.works.ends.0 i ∷ done_owners n xs ys h.1 i)

  done_rows : (n : Named) (xs ys : List (Worker A)) → AreDone n xs ys → cards_of (map (λ w. w.row) ys) ≡ cards_of (map (λ w. w.row) xs)
  done_rows n [] [] h = refl
  done_rows n [] (y ∷ ys) h = absurd h
  done_rows n (x ∷ xs) [] h = absurd h
  done_rows n (x ∷ xs) (y ∷ ys) h = (λ i. h.0.works.ends.1 i ∷ done_rows n xs ys h.1 i)

  Counted : Worker A → Type 0
  Counted w = IsCounted w.seat w.owner w.row.items w.evaluations

  done_counted : (n : Named) (xs ys : List (Worker A)) → AllByRecursion (λ w. IsCounted w.seat w.owner w.row.items w.evaluations) xs → AreDone n xs ys → AllByRecursion Counted ys
  unfolding Counted
  done_counted n [] [] c h = tt
  done_counted n [] (y ∷ ys) c h = absurd h
  done_counted n (x ∷ xs) [] c h = absurd h
  done_counted n (x ∷ xs) (y ∷ ys) c h = (h.0.works.counted c.0, done_counted n xs ys c.1 h.1)

  pub is_pool : (n : Named) (xs ys : List (Worker A)) → AreBegun n xs → AreDone n xs ys → IsPool (map (λ w. w.owner) ys) (map (λ w. w.row) ys)
  is_pool n xs ys b h = pool_kept (map (λ w. w.owner) xs) (map (λ w. w.owner) ys) (map (λ w. w.row) xs) (map (λ w. w.row) ys) (done_owners n xs ys h) (done_rows n xs ys h) b.pool

  pub all_seats : (n : Named) (xs ys : List (Worker A)) → AreBegun n xs → AreDone n xs ys → AreAllSeats n (map (λ w. w.seat) ys)
  all_seats n xs ys b h =
      let is : map (λ (s : SeatView). s.worker) (map (λ (w : Worker A). w.seat) ys) ≡ range_with_len 0 n.workers =
      map_map (λ (s : SeatView). s.worker) (λ (w : Worker A). w.seat) ys ∙ done_workers n xs ys h
      ∙ sym (map_map (λ (s : SeatView). s.worker) (λ (w : Worker A). w.seat) xs) ∙ ap (map (λ (s : SeatView). s.worker)) b.seats ∙ range_self n.code 0 n.workers in
      record { moves = []; below = tt; is = is }

  -- the turns of each worker are those of its positions in the whole journal, and no more than its evaluations, where these can be told
  turns_few : (ledger : Ledger) (ys : List (Worker A)) → AllByRecursion Counted ys → All (λ s. IsPrefix s.seen ledger) (map (λ w. w.seat) ys)
      → (sum_by (λ w. turns_at (entries_of ledger) w.seat.positions) ys ≤ sum_by (λ w. w.evaluations) ys) ⊎ (2 ^ 64 - 1 ≤ sum_by (λ w. w.evaluations) ys)
  unfolding Counted
  turns_few ledger [] c p = inl (omega arith)
  turns_few ledger (y ∷ ys) c p =
      let a = sum_cons (λ (w : Worker A). turns_at (entries_of ledger) w.seat.positions) y ys in
      let b = sum_cons (λ (w : Worker A). w.evaluations) y ys in
      let t : turns_at (entries_of ledger) y.seat.positions ≡ seat_turn_count y.seat = turns_begin (entries_of y.seat.seen) (entries_of ledger) y.seat.positions (entries_begin y.seat.seen ledger (p 0 y.seat (omega arith))) c.0.0 in
      elim (small y.evaluations) [
        | inl lt ↦
            ⊎_elim
            (λ (r : sum_by (λ w. turns_at (entries_of ledger) w.seat.positions) ys ≤ sum_by (λ w. w.evaluations) ys). let q = c.0.1 lt in inl (omega (arith, a, b, t, r, q)))
            (λ (r : 2 ^ 64 - 1 ≤ sum_by (λ w. w.evaluations) ys). inr (omega (arith, b, r)))
            (turns_few ledger ys c.1 (all_tail (λ s. IsPrefix s.seen ledger) y.seat (map (λ w. w.seat) ys) p))
        | inr ge ↦ inr (omega (arith, b, ge))
      ]

  few_evaluations : (ys : List (Worker A)) → AllByRecursion Counted ys
      → sum_by (λ w. w.evaluations) ys ≤ sum_by (λ w. length w.owner.taken) ys + sum_by (λ w. sum_by (λ t. length t.stolen) w.row.items) ys
  unfolding Counted
  few_evaluations [] c = omega arith
  few_evaluations (y ∷ ys) c =
      let a = sum_cons (λ (w : Worker A). w.evaluations) y ys in
      let b = sum_cons (λ (w : Worker A). length w.owner.taken) y ys in
      let d = sum_cons (λ (w : Worker A). sum_by (λ t. length t.stolen) w.row.items) y ys in
      let e = c.0.2 in let r = few_evaluations ys c.1 in omega (arith, a, b, d, e, r)

  at_end : (n : Named) (first left : List (Worker A)) (ledger : Ledger) (closed : ClosedView) → AreDone n first left → 1 ≤ n.workers → length left ≡ n.workers
      → All (λ v. IsPrefix v.seen ledger) (map (λ (w : Worker A). w.seat) left) → IsLedger n ledger → closed.entries ≡ entries_of ledger → IsEndIn ledger closed.end → EndsOrRuns n closed.entries closed.end
      → Ends (design_of n.code) n.limits closed.entries closed.end
  at_end n first [] ledger closed h some long extends is same at e = absurd (omega (arith, some, long))
  at_end n [] (y ∷ ys) ledger closed h some long extends is same at e = absurd h
  at_end n (x ∷ xs) (y ∷ ys) ledger closed h some long extends is same at e =
      ended n y.seat ledger closed.entries closed.end h.0.over (extends 0 y.seat (omega arith)) is same at e

  -- workers with new seats that evaluated nothing
  new_counted : (code : Compiled) (ks : List ℕ) (ws : List (Worker A)) → map (λ w. w.seat) ws ≡ map (new_seat code) ks → AllByRecursion (λ w. w.evaluations ≡ 0) ws
      → AllByRecursion (λ w. IsCounted w.seat w.owner w.row.items w.evaluations) ws
  new_counted code ks [] e z = tt
  new_counted code [] (w ∷ ws) e z = absurd (cc e)
  new_counted code (k ∷ ks) (w ∷ ws) e z =
      let seat : w.seat ≡ new_seat code k = cc e in
      let rest : map (λ (v : Worker A). v.seat) ws ≡ map (new_seat code) ks = cc e in (
        (
          subst HasPositions (sym seat) tt,
          (λ _. let t : seat_turn_count w.seat ≡ 0 = ap seat_turn_count seat in omega (arith, t)),
          (let none = z.0 in omega (arith, none)),
        ),
        new_counted code ks ws rest z.1,
      )

  pub begun : (n : Named) (ws : List (Worker A)) (seats : List SeatView) (owners owners' : List (Owning TicketView)) (rows : List (Vec (Stealing TicketView))) (tickets : List TicketView)
      → seats ≡ map (new_seat n.code) (range_with_len 0 n.workers) → IsFirstTickets n.code tickets → IsPool owners rows → IsUnused owners rows → IsFixed owners owners' → AreDealtRoundRobin owners tickets owners'
      → map (λ w. w.seat) ws ≡ seats → map (λ w. w.owner) ws ≡ owners' → map (λ w. w.row) ws ≡ rows → AllByRecursion (λ w. w.evaluations ≡ 0) ws → AreBegun n ws
  begun n ws seats owners owners' rows tickets new are_first pool unused fixed placed s o r none = record {
    seats = s ∙ new;
    pool = subst (λ (p : List (Owning _) × List (Vec (Stealing _))). IsPool p.0 p.1) (λ i. (sym o i, sym r i)) (pool_kept owners owners' rows rows fixed.0 refl pool);
    count = sym (length-map ws (λ (w : Worker A). w.seat)) ∙ ap length (s ∙ new) ∙ length-map (range_with_len 0 n.workers) (new_seat n.code) ∙ length-range_with_len 0 n.workers;
    counted = new_counted n.code (range_with_len 0 n.workers) ws (s ∙ new) none;
    first = tickets;
    are_first = are_first;
    placed = (let count : length owners' ≡ length owners = sym (length-map owners' owner_card) ∙ ap length fixed.0 ∙ length-map owners owner_card in
        let many : length owners' ≡ n.workers = ap length (sym o) ∙ length-map ws (λ (w : Worker A). w.owner) ∙ sym (length-map ws (λ (w : Worker A). w.seat)) ∙ ap length (s ∙ new)
        ∙ length-map (range_with_len 0 n.workers) (new_seat n.code) ∙ length-range_with_len 0 n.workers in
        placed_at n.workers ws owners owners' rows tickets o (omega (arith, count, many)) count unused placed);
  }

  pub outcome : (n : Named) (first left : List (Worker A)) (seats : List SeatView) (owners : List (Owning _)) (rows : List (Vec (Stealing _))) (closed : ClosedView) (tally : PoolCounts) (evaluations : List ℕ)
      → AreBegun n first → AreDone n first left → 1 ≤ n.workers → n.limits.max_entries < 2 ^ 32
      → seats ≡ map (λ w. w.seat) left → owners ≡ map (λ w. w.owner) left → rows ≡ map (λ w. w.row) left → evaluations ≡ map (λ w. w.evaluations) left
      → IsClosedWith n seats closed → tally.puts ≡ sum_by (λ o. length o.put) owners → tally.takes ≡ sum_by (λ o. length o.taken) owners → tally.steals ≡ sum_by (λ row. sum_by (λ t. length t.stolen) row.items) rows
      → IsOutcome n.code n.limits n.workers closed tally evaluations
  outcome n first left seats owners rows closed tally evaluations b h some few s o r e c puts takes steals =
      let long : length left ≡ n.workers = done_length n first left h ∙ b.count in
      let counted : AllByRecursion Counted left = done_counted n first left b.counted h in
      let extends : All (λ v. IsPrefix v.seen c.ledger) (map (λ (w : Worker A). w.seat) left) = subst (λ (l : List SeatView). All (λ v. IsPrefix v.seen c.ledger) l) s c.extends in
      let shares : (place : ℕ) → sum_by (λ ps. occurrences place ps) (map (λ (v : SeatView). v.positions) seats) ≡ occurrences place (range_with_len 0 (length closed.entries)) =
      (λ place. sum_map (λ (ps : List ℕ). occurrences place ps) (λ (v : SeatView). v.positions) seats ∙ c.once place) in
      let all : sum_by (λ (w : Worker A). turns_at (entries_of c.ledger) w.seat.positions) left ≡ journal_turn_count closed.entries =
      (ap (λ (j : List Entry). sum_by (λ (w : Worker A). turns_at j w.seat.positions) left) (sym c.entries)
      ∙ sym (sum_map (λ (v : SeatView). turns_at closed.entries v.positions) (λ (w : Worker A). w.seat) left)
      ∙ ap (sum_by (λ (v : SeatView). turns_at closed.entries v.positions)) (sym s)
      ∙ sym (sum_map (λ (ps : List ℕ). turns_at closed.entries ps) (λ (v : SeatView). v.positions) seats)
      ∙ turns_add_up closed.entries (map (λ (v : SeatView). v.positions) seats) shares) in
      let total : sum evaluations ≡ sum_by (λ (w : Worker A). w.evaluations) left = sum_is evaluations ∙ ap (sum_by (λ (k : ℕ). k)) e ∙ sum_map (λ (k : ℕ). k) (λ (w : Worker A). w.evaluations) left in
      let most : journal_turn_count closed.entries ≤ length closed.entries = few_turns closed.entries in
      let room : length closed.entries ≤ n.limits.max_entries = (let f = c.is_ledger.few in let l = ap length c.entries in omega (arith, f, l)) in
      let taken : tally.takes ≡ sum_by (λ (w : Worker A). length w.owner.taken) left = takes ∙ ap (sum_by (λ (q : Owning _). length q.taken)) o ∙ sum_map (λ (q : Owning _). length q.taken) (λ (w : Worker A). w.owner) left in
      let put : tally.puts ≡ sum_by (λ (w : Worker A). length w.owner.put) left = puts ∙ ap (sum_by (λ (q : Owning _). length q.put)) o ∙ sum_map (λ (q : Owning _). length q.put) (λ (w : Worker A). w.owner) left in
      let stolen : tally.steals ≡ sum_by (λ (w : Worker A). sum_by (λ t. length t.stolen) w.row.items) left =
      (steals ∙ ap (sum_by (λ (v : Vec (Stealing _)). sum_by (λ (t : Stealing _). length t.stolen) v.items)) r ∙ sum_map (λ (v : Vec (Stealing _)). sum_by (λ (t : Stealing _). length t.stolen) v.items) (λ (w : Worker A). w.row) left) in
      record {
        lawful = c.closed_is.lawful;
        timely = c.closed_is.timely;
        once = λ event. once (design_of n.code) closed.entries event c.closed_is.lawful;
        lines_are = c.closed_is.lines_are;
        ends = at_end n first left c.ledger closed h some long extends c.is_ledger c.entries c.end_is c.closed_is.ends;
        shares = ap length c.shares ∙ length-map seats (λ (v : SeatView). length v.positions) ∙ ap length s ∙ length-map left (λ (w : Worker A). w.seat) ∙ long;
        committed = c.sum_is;
        counts = ap length e ∙ length-map left (λ (w : Worker A). w.evaluations) ∙ long;
        turns = ⊎_elim
            (λ (x : sum_by (λ (w : Worker A). turns_at (entries_of c.ledger) w.seat.positions) left ≤ sum_by (λ (w : Worker A). w.evaluations) left). omega (arith, x, all, total))
            (λ (x : 2 ^ 64 - 1 ≤ sum_by (λ (w : Worker A). w.evaluations) left). omega (arith, x, most, room, few, total))
            (turns_few c.ledger left counted extends);
        tickets = let f = few_evaluations left counted in omega (arith, f, total, taken, stolen);
        placed = let p = placed_few n first left b h some in omega (arith, p, put);
      }

pub outcome_at : (code code' : Compiled) (limits limits' : Limits) (workers workers' : ℕ) (closed : ClosedView) (tally : PoolCounts) (evaluations : List ℕ)
    → code ≡ code' → limits ≡ limits' → workers ≡ workers' → IsOutcome code limits workers closed tally evaluations → IsOutcome code' limits' workers' closed tally evaluations
outcome_at code code' limits limits' workers workers' closed tally evaluations a b c o =
    subst (λ (x : Compiled × Limits × ℕ). IsOutcome x.0 x.1 x.2 closed tally evaluations) (λ i. (a i, b i, c i)) o

pub first_and_rest : {X : Type 0} (xs : List X) (x : X) (ys : List X) → 0 < length xs → x ≡ slice_index_or xs 0 x → ys ≡ take 0 xs ++ drop (0 + 1) xs → x ∷ ys ≡ xs
first_and_rest [] x ys some a b = absurd (omega (arith, some))
first_and_rest (z ∷ zs) x ys some a b = (λ i. a i ∷ b i)

pub as_many : {T : Type 0} (code : Compiled) (workers w : ℕ) (seats : List SeatView) (owners owners' : List (Owning T))
    → seats ≡ map (new_seat code) (range_with_len 0 workers) → length owners ≡ w → IsFixed owners owners' → w ≡ workers
    → (length owners' ≡ length seats) × (length owners ≡ length seats)
as_many code workers w seats owners owners' s o f is =
    let a : length seats ≡ workers = ap length s ∙ length-map (range_with_len 0 workers) (new_seat code) ∙ length-range_with_len 0 workers in
    let b : length owners' ≡ length owners = sym (length-map owners' owner_card) ∙ ap length f.0 ∙ length-map owners owner_card in
    (omega (arith, a, b, o, is), omega (arith, a, o, is))

module _ {A : Type 0} where
  pub begun_at : (n : Named) (xs ys : List (Worker A)) → xs ≡ ys → AreBegun n ys → AreBegun n xs
  begun_at n xs ys e b = subst (λ (l : List (Worker A)). AreBegun n l) (sym e) b

  pub some_begun : (n : Named) (xs : List (Worker A)) → AreBegun n xs → 1 ≤ n.workers → 0 < length xs
  some_begun n xs b some = let c = b.count in omega (arith, c, some)

  pub seats_back : (n : Named) (first left : List (Worker A)) (seats : List SeatView) → AreBegun n first → AreDone n first left → seats ≡ map (λ w. w.seat) left → AreAllSeats n seats
  seats_back n first left seats b h s = subst (λ (l : List SeatView). AreAllSeats n l) (sym s) (all_seats n first left b h)

  pub pool_back : (n : Named) (first left : List (Worker A)) (owners : List (Owning _)) (rows : List (Vec (Stealing _))) → AreBegun n first → AreDone n first left
      → owners ≡ map (λ w. w.owner) left → rows ≡ map (λ w. w.row) left → IsPool owners rows
  pool_back n first left owners rows b h o r = subst (λ (p : List (Owning _) × List (Vec (Stealing _))). IsPool p.0 p.1) (λ i. (sym o i, sym r i)) (is_pool n first left b h)

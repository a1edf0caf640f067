-- What a round of a worker keeps.
use Rattle.std.proofs.Common.{◌≡◌, ℕ, ◌+◌, ◌-◌, ◌^◌, min, List, map, length, get_or, set, refl, sym, ap, subst, ◌∙◌, arith}
use Rattle.eventpool.specs.Ends.{Owning, Stealing, owner_card, thief_card}
use Rattle.eventpool.proofs.Cards.{one_card}
use Rattle.commitgate.specs.Seats.{SeatView}
use Rattle.workers.specs.WorkerInvariant.{HasPositions, seat_turn_count, Goes, OnlyPuts, SameEnds, IsCounted, IsReady, got_by_ends, ServesTicket, Works, IsFixed}
use Rattle.workers.specs.declared.worker.Worker.{Worker}
use Rattle.workers.proofs.Told.{GoesOnce}

module _ {T : Type 0} where
  counted_idle : {entries : ℕ} (s s' : SeatView) (o o1 : Owning T) (r r1 : List (Stealing T)) (e e' : ℕ)
      → got_by_ends o1 r1 ≡ got_by_ends o r → Goes 0 entries s s' → e' ≡ e → IsCounted s o r e → IsCounted s' o1 r1 e'
  counted_idle s s' o o1 r r1 e e' got goes same c =
      let t = goes.counted c.0 in (
        goes.has_positions c.0,
        (λ lt. let p = c.1 (omega (arith, same, lt)) in omega (arith, p, t, same)),
        (let q = c.2 in omega (arith, q, got, same)),
      )

  counted_served : (s s' : SeatView) (o o1 : Owning T) (r r1 : List (Stealing T)) (e e' : ℕ)
      → got_by_ends o1 r1 ≡ got_by_ends o r → GoesOnce s s' → e' ≡ min (e + 1) (2 ^ 64 - 1) → IsReady s o r e → IsCounted s' o1 r1 e'
  counted_served s s' o o1 r r1 e e' got goes more c =
      let t = goes.2.counted c.0 in let one = goes.1 in (
        goes.2.has_positions c.0,
        (λ lt. let p = c.1 (omega (arith, more, lt)) in omega (arith, p, t, one, more, lt)),
        (let q = c.2 in omega (arith, q, got, more)),
      )

  -- ends into which tickets were put are the same ends, and got as many
  pub ends_kept : (o o1 o2 : Owning T) (r r1 : List (Stealing T)) → SameEnds o r o1 r1 → OnlyPuts o1 o2 → SameEnds o r o2 r1
  ends_kept o o1 o2 r r1 same puts = (puts.0 ∙ same.0, same.1)

  pub got_kept : (o o1 : Owning T) (r : List (Stealing T)) → OnlyPuts o o1 → got_by_ends o1 r ≡ got_by_ends o r
  got_kept o o1 r puts = let l : length o1.taken ≡ length o.taken = ap length puts.1 in omega (arith, l)

module _ {A : Type 0} where
  -- a worker that got no ticket
  pub works_idle : {entries : ℕ} (a b : Worker A) → Goes 0 entries a.seat b.seat → SameEnds a.owner a.row.items b.owner b.row.items
      → got_by_ends b.owner b.row.items ≡ got_by_ends a.owner a.row.items → b.evaluations ≡ a.evaluations → Works a b
  works_idle a b goes ends got same = record {
    worker = goes.worker;
    ends = ends;
    counted = counted_idle a.seat b.seat a.owner b.owner a.row.items b.row.items a.evaluations b.evaluations got goes same;
  }

  -- a worker that puts tickets alone
  pub works_puts : {entries : ℕ} (a b : Worker A) → Goes 0 entries a.seat b.seat → OnlyPuts a.owner b.owner → b.row.items ≡ a.row.items → b.evaluations ≡ a.evaluations → Works a b
  works_puts a b goes puts row same =
      works_idle a b goes (puts.0, ap (map thief_card) row)
      ((λ i. got_by_ends b.owner (row i)) ∙ got_kept a.owner b.owner a.row.items puts) same

  -- a worker that got a ticket, and serves it
  pub works_served : (a b c : Worker A) → b.seat ≡ a.seat → SameEnds a.owner a.row.items b.owner b.row.items
      → got_by_ends b.owner b.row.items ≡ got_by_ends a.owner a.row.items + 1 → b.evaluations ≡ a.evaluations → ServesTicket b c → Works a c
  works_served a b c seat ends got same serves = record {
    worker = serves.worker ∙ ap (λ s. s.worker) seat;
    ends = (serves.ends.0 ∙ ends.0, serves.ends.1 ∙ ends.1);
    counted = λ k. serves.counted (ready k);
  }
    where
      ready : IsCounted a.seat a.owner a.row.items a.evaluations → IsReady b.seat b.owner b.row.items b.evaluations
      ready k = (
        subst HasPositions (sym seat) k.0,
        (λ lt. let p = k.1 (omega (arith, same, lt)) in let t : seat_turn_count b.seat ≡ seat_turn_count a.seat = ap seat_turn_count seat in omega (arith, p, t, same)),
        (let q = k.2 in omega (arith, q, got, same)),
      )

  -- a ticket is served by a worker that puts the new ones
  pub serves_puts : (a b : Worker A) → GoesOnce a.seat b.seat → OnlyPuts a.owner b.owner → b.row.items ≡ a.row.items
      → b.evaluations ≡ min (a.evaluations + 1) (2 ^ 64 - 1) → ServesTicket a b
  serves_puts a b goes puts row more = record {
    worker = goes.2.worker;
    ends = (puts.0, ap (map thief_card) row);
    counted = counted_served a.seat b.seat a.owner b.owner a.row.items b.row.items a.evaluations b.evaluations
        ((λ i. got_by_ends b.owner (row i)) ∙ got_kept a.owner b.owner a.row.items puts) goes more;
  }

pub works_self : {A : Type 0} (w : Worker A) → Works w w
works_self w = record { worker = refl; ends = (refl, refl); counted = λ c. c }

pub works_more : {A : Type 0} (a b c : Worker A) → Works a b → Works b c → Works a c
works_more a b c f g = record {
  worker = g.worker ∙ f.worker;
  ends = (g.ends.0 ∙ f.ends.0, g.ends.1 ∙ f.ends.1);
  counted = λ x. g.counted (f.counted x);
}

-- an owner that was put a ticket is the same end, and has taken the same
pub fixed_put : {T : Type 0} (P Q : List (Owning T)) (i : ℕ) (x y : Owning T) (ps : List T) → x ≡ get_or Q i x → y ≡ record x { put = ps } → IsFixed P Q → IsFixed P (set Q i y)
fixed_put P Q i x y ps at is h = (
  one_card owner_card Q i x y at (ap owner_card is) ∙ h.0,
  one_card (λ (o : Owning _). o.taken) Q i x y at (ap (λ (o : Owning _). o.taken) is) ∙ h.1,
)

-- The first tickets of all processes were put.
use Rattle.std.proofs.Common.{◌≡◌, ℕ, zero, suc, ◌+◌, ◌-◌, ◌<◌, ◌≤◌, List, [], ◌∷◌, ◌++◌, map, length, sum_by, Some, refl, sym, ap, ◌∙◌, arith, length-append}
use Rattle.std.specs.Prelude.{slice_get}
use Rattle.std.specs.Global.{Vec}
use mathlib.Core.List.{IsPrefix}
use Rattle.commitgate.specs.Named.{Named}
use Rattle.commitgate.specs.Tickets.{TicketView, IsFirstTickets}
use Rattle.eventpool.specs.Ends.{Owning, Stealing}
use Rattle.eventpool.specs.Pools.{IsUnused}
use Rattle.eventpool.proofs.Places.{some_at, below_at}
use Rattle.workers.specs.declared.worker.Worker.{Worker}
use Rattle.workers.specs.WorkerInvariant.{every, AreDone, AreBegun, AreDealtRoundRobin}
use Rattle.workers.proofs.Rows.{sum_cons}

-- the lengths of the first of some lists
lengths : {T : Type 0} → (ℕ → List T) → ℕ → ℕ
lengths f zero = 0
lengths f (suc k) = length (f 0) + lengths (λ i. f (suc i)) k

lengths_snoc : {T : Type 0} (f : ℕ → List T) (k : ℕ) → lengths f (suc k) ≡ lengths f k + length (f k)
unfolding lengths
lengths_snoc f zero = omega arith
lengths_snoc f (suc k) = let rest = lengths_snoc (λ i. f (suc i)) k in omega (arith, rest)

none_of : (T : Type 0) (n k : ℕ) → lengths (λ (i : ℕ). every {T = T} n i []) k ≡ 0
unfolding lengths
none_of T n zero = refl
none_of T n (suc k) = let rest = none_of T n k in omega (arith, rest)

-- every n-th of some tickets, from each of the first n on, are all of them
all_of : {T : Type 0} (m : ℕ) (xs : List T) → lengths (λ i. every (suc m) i xs) (suc m) ≡ length xs
unfolding lengths
all_of {T} m [] = none_of T (suc m) (suc m)
all_of m (x ∷ xs) =
    let one : suc m - 1 ≡ m = omega arith in
    let first : length (every (suc m) (suc m - 1) xs) ≡ length (every (suc m) m xs) = ap (λ k. length (every (suc m) k xs)) one in
    let last = lengths_snoc (λ i. every (suc m) i xs) m in
    let rest = all_of m xs in
    omega (arith, first, last, rest)

map_at : {X Y : Type 0} (f : X → Y) (xs : List X) (k : ℕ) (x : X) → slice_get xs k ≡ Some x → slice_get (map f xs) k ≡ Some (f x)
map_at f [] k x at = absurd (cc at)
map_at f (y ∷ ys) zero x at = let same : y ≡ x = cc at in ap (λ z. Some (f z)) same
map_at f (y ∷ ys) (suc k) x at = map_at f ys k x at

module _ {A : Type 0} where
  -- each owner was put its tickets behind none
  pub placed_at : (n : ℕ) (ws : List (Worker A)) (owners owners' : List (Owning TicketView)) (rows : List (Vec (Stealing TicketView))) (tickets : List TicketView)
      → map (λ w. w.owner) ws ≡ owners' → length owners ≡ n → length owners' ≡ length owners → IsUnused owners rows → AreDealtRoundRobin owners tickets owners'
      → (w : ℕ) (x : Worker A) → slice_get ws w ≡ Some x → x.owner.put ≡ every n w tickets
  placed_at n ws owners owners' rows tickets is long same unused placed w x at =
      let there : slice_get owners' w ≡ Some x.owner = ap (λ (l : List (Owning TicketView)). slice_get l w) (sym is) ∙ map_at (λ (v : Worker A). v.owner) ws w x at in
      let low = below_at owners' w x.owner there in
      let was = some_at owners w (omega (arith, low, same)) in
      let now = placed w was.0 was.1 in
      let one : x.owner ≡ record was.0 { put = was.0.put ++ every (length owners) w tickets } = some_same (sym there ∙ now) in
      ap (λ (o : Owning TicketView). o.put) one ∙ ap (λ l. l ++ every (length owners) w tickets) (unused.0 w was.0 was.1).0 ∙ ap (λ k. every k w tickets) long
    where
      some_same : {o q : Owning TicketView} → Some o ≡ Some q → o ≡ q
      some_same e = cc e

  -- what was put at first
  puts_of : (f : ℕ → List TicketView) (ws : List (Worker A)) → ((w : ℕ) (x : Worker A) → slice_get ws w ≡ Some x → x.owner.put ≡ f w)
      → sum_by (λ w. length w.owner.put) ws ≡ lengths f (length ws)
  unfolding lengths
  puts_of f [] h = refl
  puts_of f (w ∷ ws) h =
      let a = sum_cons (λ (x : Worker A). length x.owner.put) w ws in
      let b : length w.owner.put ≡ length (f 0) = ap length (h 0 w refl) in
      let c = puts_of (λ i. f (suc i)) ws (λ k x at. h (suc k) x at) in
      omega (arith, a, b, c)

  -- what was put stays put
  puts_later : (n : Named) (xs ys : List (Worker A)) → AreDone n xs ys → sum_by (λ w. length w.owner.put) xs ≤ sum_by (λ w. length w.owner.put) ys
  puts_later n [] [] h = omega arith
  puts_later n [] (y ∷ ys) h = absurd h
  puts_later n (x ∷ xs) [] h = absurd h
  puts_later n (x ∷ xs) (y ∷ ys) h =
      let a = sum_cons (λ (w : Worker A). length w.owner.put) x xs in
      let b = sum_cons (λ (w : Worker A). length w.owner.put) y ys in
      let p = h.0.later.put in
      let l : length y.owner.put ≡ length x.owner.put + length p.0 = ap length (sym p.1) ∙ length-append x.owner.put p.0 in
      let rest = puts_later n xs ys h.1 in
      omega (arith, a, b, l, rest)

  first_puts : (n m : ℕ) (tickets : List TicketView) (ws : List (Worker A)) → n ≡ suc m → length ws ≡ n → ((w : ℕ) (x : Worker A) → slice_get ws w ≡ Some x → x.owner.put ≡ every n w tickets)
      → sum_by (λ w. length w.owner.put) ws ≡ length tickets
  first_puts n m tickets ws is long placed =
      puts_of (λ w. every (suc m) w tickets) ws (λ w x at. placed w x at ∙ ap (λ k. every k w tickets) is) ∙ ap (lengths (λ w. every (suc m) w tickets)) (long ∙ is) ∙ all_of m tickets

  -- there is a ticket for each process
  pub placed_few : (n : Named) (first left : List (Worker A)) → AreBegun n first → AreDone n first left → 1 ≤ n.workers
      → length n.code.processes ≤ sum_by (λ w. length w.owner.put) left
  placed_few n first left b h some =
      let m : ℕ = n.workers - 1 in
      let is : n.workers ≡ suc m = omega (arith, some) in
      let all = first_puts n.workers m b.first first is b.count b.placed in
      let count = b.are_first.count in
      let later = puts_later n first left h in
      omega (arith, all, count, later)

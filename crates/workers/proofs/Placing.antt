-- The first tickets go to the workers round and round.
use Rattle.std.proofs.Common.{◌≡◌, ◌≢◌, ◌⊎◌, ℕ, suc, ◌+◌, ◌-◌, ◌<◌, ◌≤◌, cond, ltb, List, [], ◌∷◌, ◌++◌, set, length, Some, refl, sym, ap, ◌∙◌, subst, arith, append_assoc, append-nil, get_or, ⊎_elim}
use Rattle.std.specs.Prelude.{slice_get}
use Rattle.std.proofs.lemmas.Bool.{cond_below, cond_above}
use native.Mathlib.Decide.{ℕ_discrete, dec_lt}
use Rattle.eventpool.specs.Ends.{Owning}
use Rattle.eventpool.proofs.Places.{below_at, there_at, one_at, set_here, set_there}
use Rattle.workers.specs.WorkerInvariant.{every, AreDealtRoundRobin}

-- how many tickets go to others before the worker w gets one, where the next one goes to another worker
pub ahead : ℕ → ℕ → ℕ → ℕ
ahead n w next = cond (ltb w next) (w + n - next) (w - next)

-- the worker behind another, round and round
abbrev pub IsNext : ℕ → ℕ → ℕ → Type 0
IsNext n next after = ((after ≡ next + 1) × (next + 1 < n)) ⊎ ((after ≡ 0) × (next + 1 ≡ n))

ahead_below : (n w next : ℕ) → w < next → ahead n w next ≡ w + n - next
unfolding ahead
ahead_below n w next lt = sym (cond_below w next (w + n - next) (w - next) lt)

ahead_above : (n w next : ℕ) → next ≤ w → ahead n w next ≡ w - next
unfolding ahead
ahead_above n w next le = sym (cond_above w next (w + n - next) (w - next) (w - next) le refl)

ahead_first : (n w : ℕ) → ahead n w 0 ≡ w
ahead_first n w = let e = ahead_above n w 0 (omega arith) in omega (arith, e)

ahead_none : (n w : ℕ) → ahead n w w ≡ 0
ahead_none n w = let e = ahead_above n w w (omega arith) in omega (arith, e)

ahead_round : (n w after : ℕ) → IsNext n w after → ahead n w after ≡ n - 1
ahead_round n w after h =
    ⊎_elim
    (λ (a : (after ≡ w + 1) × (w + 1 < n)). let p = a.0 in let q = a.1 in let e = ahead_below n w after (omega (arith, p)) in omega (arith, e, p, q))
    (λ (a : (after ≡ 0) × (w + 1 ≡ n)). let p = a.0 in let q = a.1 in let e = ahead_above n w after (omega (arith, p)) in omega (arith, e, p, q))
    h

ahead_less : (n w next after : ℕ) → w < n → next < n → w ≢ next → IsNext n next after → ahead n w next ≡ suc (ahead n w after)
ahead_less n w next after low here other h = elim (dec_lt w next) [
  | yes lt ↦
      (let e = ahead_below n w next lt in
      ⊎_elim
      (λ (a : (after ≡ next + 1) × (next + 1 < n)). let p = a.0 in let q = a.1 in let f = ahead_below n w after (omega (arith, p, lt)) in omega (arith, e, f, p, q, lt))
      (λ (a : (after ≡ 0) × (next + 1 ≡ n)). let p = a.0 in let q = a.1 in let f = ahead_above n w after (omega (arith, p)) in omega (arith, e, f, p, q, lt))
      h)
  | no ge ↦
      (let above : next < w = omega (arith, ge, other) in
      let e = ahead_above n w next (omega (arith, above)) in
      ⊎_elim
      (λ (a : (after ≡ next + 1) × (next + 1 < n)). let p = a.0 in let f = ahead_above n w after (omega (arith, p, above)) in omega (arith, e, f, p, above))
      (λ (a : (after ≡ 0) × (next + 1 ≡ n)). let q = a.1 in absurd (omega (arith, q, low, above)))
      h)
]

module _ {T : Type 0} where
  every_here : (n k : ℕ) (t : T) (ts : List T) → k ≡ 0 → every n k (t ∷ ts) ≡ t ∷ every n (n - 1) ts
  every_here n k t ts none = ap (λ j. every n j (t ∷ ts)) none

  every_later : (n k j : ℕ) (t : T) (ts : List T) → k ≡ suc j → every n k (t ∷ ts) ≡ every n j ts
  every_later n k j t ts more = ap (λ i. every n i (t ∷ ts)) more

  -- each owner has some of its tickets, and those of the rest that go to it are the others
  pub record Gets (n next : ℕ) (old now : List (Owning T)) (all rest : List T) : Type 0 where
    pub each : (w : ℕ) (o : Owning T) → slice_get old w ≡ Some o
        → (p : List T) × (slice_get now w ≡ Some (record o { put = p })) × (p ++ every n (ahead n w next) rest ≡ o.put ++ every n w all)

  pub gets_none : (n : ℕ) (old : List (Owning T)) (all rest : List T) → rest ≡ all → Gets n 0 old old all rest
  gets_none n old all rest is = record { each = λ w o at. (o.put, at, ap (λ k. o.put ++ every n k rest) (ahead_first n w) ∙ ap (λ l. o.put ++ every n w l) is) }

  pub gets_more : (n next after : ℕ) (old now : List (Owning T)) (all rest rest' : List T) (t : T) (x y : Owning T)
      → length old ≡ n → length now ≡ n → next < n → IsNext n next after → rest ≡ t ∷ rest'
      → x ≡ get_or now next x → y ≡ record x { put = x.put ++ t ∷ [] } → Gets n next old now all rest → Gets n after old (set now next y) all rest'
  gets_more n next after old now all rest rest' t x y long same low behind is at put g = record {
    each = λ w o there.
        let was = g.each w o there in
        elim (ℕ_discrete w next) [
          | yes here ↦
              (let mine : x ≡ record o { put = was.0 } =
              one_at now next x (record o { put = was.0 }) (there_at now next x (omega (arith, same, low)) at) (ap (λ k. slice_get now k) (sym here) ∙ was.1) in (
                was.0 ++ t ∷ [],
                ap (λ k. slice_get (set now next y) k) here ∙ set_here now next y (omega (arith, same, low)) ∙ ap Some (put ∙ ap (λ (z : Owning T). record z { put = z.put ++ t ∷ [] }) mine),
                append_assoc was.0 (t ∷ []) (every n (ahead n w after) rest')
                    ∙ ap (λ k. was.0 ++ t ∷ every n k rest') (ahead_round n w after (subst (λ k. IsNext n k after) (sym here) behind))
                    ∙ ap (λ l. was.0 ++ l) (sym (every_here n (ahead n w next) t rest' (ap (λ k. ahead n w k) (sym here) ∙ ahead_none n w)))
                    ∙ ap (λ l. was.0 ++ every n (ahead n w next) l) (sym is)
                    ∙ was.2,
              ))
          | no other ↦
              (let less = ahead_less n w next after (let b = below_at old w o there in omega (arith, b, long)) low other behind in (
                was.0,
                set_there now next w y other ∙ was.1,
                ap (λ l. was.0 ++ l) (sym (every_later n (ahead n w next) (ahead n w after) t rest' less))
                    ∙ ap (λ l. was.0 ++ every n (ahead n w next) l) (sym is)
                    ∙ was.2,
              ))
        ];
  }

  pub gets_all : (n next : ℕ) (old now : List (Owning T)) (all rest : List T) → length old ≡ n → rest ≡ [] → Gets n next old now all rest → AreDealtRoundRobin old all now
  gets_all n next old now all rest long none g w o at =
      let was = g.each w o at in
      was.1 ∙ ap (λ p. Some (record o { put = p })) (sym (append-nil was.0) ∙ ap (λ l. was.0 ++ every n (ahead n w next) l) (sym none) ∙ was.2 ∙ ap (λ k. o.put ++ every k w all) (sym long))

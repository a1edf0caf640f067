-- Shares that have each place once have each turn once.
use Rattle.std.proofs.Common.{◌≡◌, ◌≢◌, ℕ, zero, suc, ◌+◌, ◌*◌, ◌<◌, ◌≤◌, if◌then◌else◌, List, [], ◌∷◌, length, refl, sym, ap, ◌∙◌, arith, eq-eqb, ne_eqb}
use Rattle.std.specs.Prelude.{slice_get}
use Rattle.std.specs.List.{range_with_len, sum_by}
use Rattle.std.proofs.lemmas.List.Sums.{sum_by-append}
use native.Mathlib.Decide.{ℕ_discrete, dec_lt}
use Rattle.model.specs.declared.entry.Entry.{Entry}
use Rattle.workers.specs.Counting.{turn_count, journal_turn_count, turn_count_at, turns_at}
use Rattle.commitgate.specs.Closing.{occurrences}

sum_cons : {X : Type 0} (f : X → ℕ) (x : X) (xs : List X) → sum_by f (x ∷ xs) ≡ f x + sum_by f xs
sum_cons f x xs = omega (arith, sum_by-append f (x ∷ []) xs)

-- the weights of the n numbers from a on, each as often as it stands in a list
weigh : (ℕ → ℕ) → ℕ → ℕ → List ℕ → ℕ
weigh w a zero ps = 0
weigh w a (suc n) ps = occurrences a ps * w a + weigh w (a + 1) n ps

weigh_none : (w : ℕ → ℕ) (a n : ℕ) → weigh w a n [] ≡ 0
unfolding weigh
weigh_none w a zero = refl
weigh_none w a (suc n) = let rest = weigh_none w (a + 1) n in omega (arith, rest)

times_hit : (a p : ℕ) (ps : List ℕ) → a ≡ p → occurrences a (p ∷ ps) ≡ 1 + occurrences a ps
times_hit a p ps e = ap (λ b. (if b then 1 else 0) + occurrences a ps) (eq-eqb a p e)

times_miss : (a p : ℕ) (ps : List ℕ) → a ≢ p → occurrences a (p ∷ ps) ≡ occurrences a ps
times_miss a p ps e = ap (λ b. (if b then 1 else 0) + occurrences a ps) (ne_eqb a p e) ∙ omega arith

one_more : (t x : ℕ) → (1 + t) * x ≡ x + t * x
one_more t x = omega arith

weigh_out : (w : ℕ → ℕ) (a n p : ℕ) (ps : List ℕ) → p < a → weigh w a n (p ∷ ps) ≡ weigh w a n ps
unfolding weigh
weigh_out w a zero p ps low = refl
weigh_out w a (suc n) p ps low =
    let apart : a ≢ p = λ e. absurd (omega arith) in
    (λ i. times_miss a p ps apart i * w a + weigh_out w (a + 1) n p ps (omega arith) i)

hit_step : (w : ℕ → ℕ) (a p t r : ℕ) → a ≡ p → (1 + t) * w a + r ≡ w p + (t * w a + r)
hit_step w a p t r e = let same : w a ≡ w p = ap w e in let m = one_more t (w a) in omega (arith, same, m)

weigh_in : (w : ℕ → ℕ) (a n p : ℕ) (ps : List ℕ) → a ≤ p → p < a + n → weigh w a n (p ∷ ps) ≡ w p + weigh w a n ps
unfolding weigh
weigh_in w a zero p ps low high = absurd (omega arith)
weigh_in w a (suc n) p ps low high = elim (ℕ_discrete a p) [
  | yes same ↦
      (λ i. times_hit a p ps same i * w a + weigh_out w (a + 1) n p ps (omega arith) i)
      ∙ hit_step w a p (occurrences a ps) (weigh w (a + 1) n ps) same
  | no other ↦
      (let rest = weigh_in w (a + 1) n p ps (omega arith) (omega arith) in
      (λ i. times_miss a p ps other i * w a + rest i)
      ∙ (let x = w p in let y = occurrences a ps * w a in let z = weigh w (a + 1) n ps in omega arith))
]

-- the weights of the places of a list, added up
pub weights : (ℕ → ℕ) → List ℕ → ℕ
weights w [] = 0
weights w (p ∷ ps) = w p + weights w ps

Below : ℕ → List ℕ → Type 0
Below n [] = Unit {0}
Below n (p ∷ ps) = (p < n) × Below n ps

weights_weigh : (w : ℕ → ℕ) (n : ℕ) (ps : List ℕ) → Below n ps → weights w ps ≡ weigh w 0 n ps
unfolding weights Below
weights_weigh w n [] h = sym (weigh_none w 0 n)
weights_weigh w n (p ∷ ps) h =
    let low : p < 0 + n = let l = h.0 in omega arith in
    let rest = weights_weigh w n ps h.1 in
    (λ i. w p + rest i) ∙ sym (weigh_in w 0 n p ps (omega arith) low)

-- a list is below a number where no greater one stands in it
below_of : (n : ℕ) (ps : List ℕ) → ((q : ℕ) → n ≤ q → occurrences q ps ≡ 0) → Below n ps
unfolding Below
below_of n [] h = tt
below_of n (p ∷ ps) h = (
  elim (dec_lt p n) [ yes lt ↦ lt | no ge ↦ absurd (let e = h p (omega arith) in let m = times_hit p p ps refl in omega (arith, e, m)) ],
  below_of n ps (λ q le. let e = h q le in elim (ℕ_discrete q p) [
    | yes same ↦ absurd (let m = times_hit q p ps same in omega (arith, e, m))
    | no other ↦ sym (times_miss q p ps other) ∙ e
  ]),
)

-- a number that stands in no list of all stands in none
none_of : (f : List ℕ → ℕ) (xs : List (List ℕ)) (ps : List ℕ) → sum_by f (ps ∷ xs) ≡ 0 → (f ps ≡ 0) × (sum_by f xs ≡ 0)
none_of f xs ps e = let m = sum_cons f ps xs in (omega (arith, e, m), omega (arith, e, m))

-- numbers from a on, each so often, by weight
over : (ℕ → ℕ) → (ℕ → ℕ) → ℕ → ℕ → ℕ
over w t a zero = 0
over w t a (suc n) = t a * w a + over w t (a + 1) n

over_same : (w t u : ℕ → ℕ) (a n : ℕ) → ((q : ℕ) → t q ≡ u q) → over w t a n ≡ over w u a n
unfolding over
over_same w t u a zero e = refl
over_same w t u a (suc n) e = (λ i. e a i * w a + over_same w t u (a + 1) n e i)

spread : (x y z : ℕ) → (x + y) * z ≡ x * z + y * z
spread x y z = omega arith

over_add : (w t u : ℕ → ℕ) (a n : ℕ) → over w (λ q. t q + u q) a n ≡ over w t a n + over w u a n
unfolding over
over_add w t u a zero = refl
over_add w t u a (suc n) = let s = spread (t a) (u a) (w a) in let rest = over_add w t u (a + 1) n in omega (arith, s, rest)

over_none : (w : ℕ → ℕ) (a n : ℕ) → over w (λ _. 0) a n ≡ 0
unfolding over
over_none w a zero = refl
over_none w a (suc n) = let rest = over_none w (a + 1) n in omega (arith, rest)

weigh_over : (w : ℕ → ℕ) (a n : ℕ) (ps : List ℕ) → weigh w a n ps ≡ over w (λ q. occurrences q ps) a n
unfolding weigh over
weigh_over w a zero ps = refl
weigh_over w a (suc n) ps = (λ i. occurrences a ps * w a + weigh_over w (a + 1) n ps i)

AllBelow : ℕ → List (List ℕ) → Type 0
AllBelow n [] = Unit {0}
AllBelow n (ps ∷ xs) = Below n ps × AllBelow n xs

sum_over : (w : ℕ → ℕ) (n : ℕ) (xs : List (List ℕ)) → AllBelow n xs → sum_by (λ ps. weights w ps) xs ≡ over w (λ q. sum_by (λ ps. occurrences q ps) xs) 0 n
unfolding AllBelow
sum_over w n [] h = sym (over_none w 0 n)
sum_over w n (ps ∷ xs) h =
    sum_cons (λ (l : List ℕ). weights w l) ps xs
    ∙ (λ i. (weights_weigh w n ps h.0 ∙ weigh_over w 0 n ps) i + sum_over w n xs h.1 i)
    ∙ sym (over_add w (λ q. occurrences q ps) (λ q. sum_by (λ (l : List ℕ). occurrences q l) xs) 0 n)
    ∙ sym (over_same w (λ q. sum_by (λ (l : List ℕ). occurrences q l) (ps ∷ xs)) (λ q. occurrences q ps + sum_by (λ (l : List ℕ). occurrences q l) xs) 0 n (λ q. sum_cons (λ (l : List ℕ). occurrences q l) ps xs))

all_below : (n : ℕ) (xs : List (List ℕ)) → ((q : ℕ) → n ≤ q → sum_by (λ ps. occurrences q ps) xs ≡ 0) → AllBelow n xs
unfolding AllBelow
all_below n [] h = tt
all_below n (ps ∷ xs) h = (
  below_of n ps (λ q le. (none_of (λ (l : List ℕ). occurrences q l) xs ps (h q le)).0),
  all_below n xs (λ q le. (none_of (λ (l : List ℕ). occurrences q l) xs ps (h q le)).1),
)

range_out : (q a n : ℕ) → a + n ≤ q → occurrences q (range_with_len a n) ≡ 0
range_out q a zero le = refl
range_out q a (suc n) le = times_miss q a (range_with_len (a + 1) n) (λ e. absurd (omega arith)) ∙ range_out q (a + 1) n (omega arith)

shifted : (f g : ℕ → ℕ) (a b n : ℕ) → ((i : ℕ) → f (a + i) ≡ g (b + i)) → weights f (range_with_len a n) ≡ weights g (range_with_len b n)
unfolding weights
shifted f g a b zero e = refl
shifted f g a b (suc n) e =
    let first : f a ≡ g b = ap f (let z : a ≡ a + 0 = omega arith in z) ∙ e 0 ∙ ap g (let z : b + 0 ≡ b = omega arith in z) in
    let rest = shifted f g (a + 1) (b + 1) n (λ i. ap f (let z : a + 1 + i ≡ a + (1 + i) = omega arith in z) ∙ e (1 + i) ∙ ap g (let z : b + (1 + i) ≡ b + 1 + i = omega arith in z)) in
    (λ i. first i + rest i)

all_turns : (journal : List Entry) → weights (λ p. turn_count_at (slice_get journal p)) (range_with_len 0 (length journal)) ≡ journal_turn_count journal
unfolding weights
all_turns [] = refl
all_turns (e ∷ es) =
    let rest = shifted (λ p. turn_count_at (slice_get (e ∷ es) p)) (λ p. turn_count_at (slice_get es p)) 1 0 (length es)
    (λ i. ap (λ p. turn_count_at (slice_get (e ∷ es) p)) (let z : 1 + i ≡ suc i = omega arith in z) ∙ ap (λ p. turn_count_at (slice_get es p)) (let z : i ≡ 0 + i = omega arith in z)) in
    (λ i. turn_count e + (rest ∙ all_turns es) i)

at_weights : (journal : List Entry) (ps : List ℕ) → turns_at journal ps ≡ weights (λ p. turn_count_at (slice_get journal p)) ps
unfolding weights
at_weights journal [] = refl
at_weights journal (p ∷ ps) = (λ i. turn_count_at (slice_get journal p) + at_weights journal ps i)

sum_same : (f g : List ℕ → ℕ) (xs : List (List ℕ)) → ((l : List ℕ) → f l ≡ g l) → sum_by f xs ≡ sum_by g xs
sum_same f g [] e = refl
sum_same f g (x ∷ xs) e = let a = sum_cons f x xs in let b = sum_cons g x xs in let c = e x in let r = sum_same f g xs e in omega (arith, a, b, c, r)

pub turns_add_up : (journal : List Entry) (shares : List (List ℕ))
    → ((place : ℕ) → sum_by (λ ps. occurrences place ps) shares ≡ occurrences place (range_with_len 0 (length journal)))
    → sum_by (λ ps. turns_at journal ps) shares ≡ journal_turn_count journal
turns_add_up journal shares once =
    let w : ℕ → ℕ = λ p. turn_count_at (slice_get journal p) in
    let n : ℕ = length journal in
    let below : AllBelow n shares = all_below n shares (λ q le. once q ∙ range_out q 0 n (omega arith)) in
    let whole : Below n (range_with_len 0 n) = below_of n (range_with_len 0 n) (λ q le. range_out q 0 n (omega arith)) in
    sum_same (λ ps. turns_at journal ps) (λ ps. weights w ps) shares (λ ps. at_weights journal ps)
    ∙ sum_over w n shares below
    ∙ over_same w (λ q. sum_by (λ (l : List ℕ). occurrences q l) shares) (λ q. occurrences q (range_with_len 0 n)) 0 n once
    ∙ sym (weights_weigh w n (range_with_len 0 n) whole ∙ weigh_over w 0 n (range_with_len 0 n))
    ∙ all_turns journal

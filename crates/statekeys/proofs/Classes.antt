-- Lists that are grouped by class.
use Rattle.std.proofs.Common.{◌≡◌, ℕ, zero, suc, ◌<◌, ◌≤◌, ◌==◌, Bool, true, false, cond, List, [], ◌∷◌, length, map, filter, nat_cmp, is_lt, ◌⊎◌, inl, inr, refl, sym, ap, subst, ◌∙◌, arith, get_or}
use Rattle.std.proofs.lemmas.Bool.{eqb-true}
use Rattle.std.proofs.lemmas.Bool.Decides.{nat_tests}
use Rattle.std.proofs.lemmas.List.{get_or-map, length-map}
use Rattle.std.proofs.lemmas.Simd.{map-map}
use Rattle.std.specs.List.Sorted.{ties, IsNonDecreasingBy, IsStableByKey}
use Rattle.logic4.specs.Vector.{Vector}
use Rattle.loose.specs.Loose.{of_class}
use Rattle.regions.specs.declared.queue.Update.{Update}
use Rattle.regions.specs.declared.future.Due.{Due}
use Rattle.statekeys.specs.Keys.{at_time}
use Rattle.statekeys.specs.KeyParts.{unnumbered_update, due_assignment}
use Rattle.statekeys.specs.ClassKeys.{IsGrouped}

-- numbers tie where they are the same
ties_same : (m n : ℕ) → ties (λ x y. is_lt (nat_cmp x y)) m n ≡ (n == m)
ties_same m n = grind (arith, nat_tests)

module _ {X : Type 0} (n : X → ℕ) where
  -- none has a number, or one does
  first_if : (c : ℕ) (x : X) (xs : List X) (b : Bool) → (n x == c) ≡ b → (filter (λ y. n y == c) xs ≡ []) ⊎ ((y : X) × (n y ≡ c))
      → (cond b (x ∷ filter (λ y. n y == c) xs) (filter (λ y. n y == c) xs) ≡ []) ⊎ ((y : X) × (n y ≡ c))
  first_if c x xs true is h = inr (x, eqb-true (n x) c is)
  first_if c x xs false is h = h

  some_or_none : (c : ℕ) (xs : List X) → (filter (λ y. n y == c) xs ≡ []) ⊎ ((y : X) × (n y ≡ c))
  some_or_none c [] = inl refl
  some_or_none c (x ∷ xs) = first_if c x xs (n x == c) refl (some_or_none c xs)

  kept_at : (c : ℕ) (x : X) (xs ys : List X) → n x ≡ c → IsStableByKey n nat_cmp xs ys → filter (λ y. n y == c) ys ≡ filter (λ y. n y == c) xs
  kept_at c x xs ys is stable =
      let same : (λ (y : X). ties (λ a b. is_lt (nat_cmp (n a) (n b))) x y) ≡ (λ (y : X). n y == c) =
      λ k y. (ties_same (n x) (n y) ∙ ap (λ m. n y == m) is) k in
      sym (ap (λ (p : X → Bool). filter p ys) same) ∙ stable x ∙ ap (λ (p : X → Bool). filter p xs) same

  -- a stable sort keeps those of each number in their order
  pub stable_kept : (c : ℕ) (xs ys : List X) → IsStableByKey n nat_cmp xs ys → filter (λ y. n y == c) ys ≡ filter (λ y. n y == c) xs
  stable_kept c xs ys stable =
      elim (some_or_none c xs) [
        | inr (x, is) ↦ kept_at c x xs ys is stable
        | inl none ↦ elim (some_or_none c ys) [
          | inr (x, is) ↦ kept_at c x xs ys is stable
          | inl none' ↦ none' ∙ sym none
        ]
      ]

module _ {X : Type 0} (p q : X → Bool) where
  both_if : (x : X) (xs : List X) (a b : Bool) → p x ≡ a → q x ≡ b → filter p (filter q xs) ≡ filter q (filter p xs)
      → filter p (cond b (x ∷ filter q xs) (filter q xs)) ≡ filter q (cond a (x ∷ filter p xs) (filter p xs))
  both_if x xs true true is is' h = rw (is, is') (ap (λ (ys : List X). x ∷ ys) h)
  both_if x xs true false is is' h = rw is' h
  both_if x xs false true is is' h = rw is h
  both_if x xs false false is is' h = h

  -- the order of two filters is no matter
  pub filter_both : (xs : List X) → filter p (filter q xs) ≡ filter q (filter p xs)
  filter_both [] = refl
  filter_both (x ∷ xs) = both_if x xs (p x) (q x) refl refl (filter_both xs)

module _ {X Y : Type 0} (f : X → Y) (p : Y → Bool) where
  map_if : (x : X) (xs : List X) (b : Bool) → filter p (map f xs) ≡ map f (filter (λ y. p (f y)) xs)
      → cond b (f x ∷ filter p (map f xs)) (filter p (map f xs)) ≡ map f (cond b (x ∷ filter (λ y. p (f y)) xs) (filter (λ y. p (f y)) xs))
  map_if x xs true h = ap (λ (ys : List Y). f x ∷ ys) h
  map_if x xs false h = h

  pub filter_map : (xs : List X) → filter p (map f xs) ≡ map f (filter (λ y. p (f y)) xs)
  filter_map [] = refl
  filter_map (x ∷ xs) = map_if x xs (p (f x)) (filter_map xs)

pub rising-map : {X Y : Type 0} (f : X → Y) (n : Y → ℕ) (xs : List X) → IsNonDecreasingBy (λ x. n (f x)) xs → IsNonDecreasingBy n (map f xs)
rising-map f n [] h i j d le lt = absurd (omega arith)
rising-map f n (x ∷ xs) h i j d le lt =
    let long = length-map (x ∷ xs) f in
    rw (get_or-map f (x ∷ xs) i x d (omega arith), get_or-map f (x ∷ xs) j x d (omega arith)) (h i j x le (omega arith))

-- those that pass a test rise as all do

abbrev pub AreAtLeast : {X : Type 0} → (X → ℕ) → ℕ → List X → Type 0
AreAtLeast n m [] = Unit {0}
AreAtLeast n m (y ∷ ys) = (m ≤ n y) × AreAtLeast n m ys

abbrev pub Rise : {X : Type 0} → (X → ℕ) → List X → Type 0
Rise n [] = Unit {0}
Rise n (y ∷ ys) = AreAtLeast n (n y) ys × Rise n ys

module _ {X : Type 0} (n : X → ℕ) where
  at_least : (m : ℕ) (ys : List X) → ((j : ℕ) (d : X) → j < length ys → m ≤ n (get_or ys j d)) → AreAtLeast n m ys
  at_least m [] h = tt
  at_least m (y ∷ ys) h = (h 0 y (omega arith), at_least m ys (λ j d lt. h (suc j) d (omega arith)))

  pub rise_from : (ys : List X) → IsNonDecreasingBy n ys → Rise n ys
  rise_from [] h = tt
  rise_from (y ∷ ys) h = (
    at_least (n y) ys (λ j d lt. h 0 (suc j) d (omega arith) (omega arith)),
    rise_from ys (λ i j d le lt. h (suc i) (suc j) d (omega arith) (omega arith)),
  )

  at_least_to : (m : ℕ) (ys : List X) → AreAtLeast n m ys → (j : ℕ) (d : X) → j < length ys → m ≤ n (get_or ys j d)
  at_least_to m [] h j d lt = absurd (omega arith)
  at_least_to m (y ∷ ys) h zero d lt = h.0
  at_least_to m (y ∷ ys) h (suc j) d lt = at_least_to m ys h.1 j d (omega arith)

  rise_to : (ys : List X) → Rise n ys → IsNonDecreasingBy n ys
  rise_to [] h i j d le lt = absurd (omega arith)
  rise_to (y ∷ ys) h zero zero d le lt = omega arith
  rise_to (y ∷ ys) h zero (suc j) d le lt = at_least_to (n y) ys h.0 j d (omega arith)
  rise_to (y ∷ ys) h (suc i) zero d le lt = absurd (omega arith)
  rise_to (y ∷ ys) h (suc i) (suc j) d le lt = rise_to ys h.1 i j d (omega arith) (omega arith)

  module _ (p : X → Bool) where
    at_least_if : (m : ℕ) (x : X) (xs : List X) (b : Bool) → m ≤ n x → AreAtLeast n m xs → AreAtLeast n m (cond b (x ∷ xs) xs)
    at_least_if m x xs true le h = (le, h)
    at_least_if m x xs false le h = h

    at_least_kept : (m : ℕ) (xs : List X) → AreAtLeast n m xs → AreAtLeast n m (filter p xs)
    at_least_kept m [] h = tt
    at_least_kept m (x ∷ xs) h = at_least_if m x (filter p xs) (p x) h.0 (at_least_kept m xs h.1)

    rise_if : (x : X) (xs : List X) (b : Bool) → AreAtLeast n (n x) xs → Rise n xs → Rise n (cond b (x ∷ xs) xs)
    rise_if x xs true h k = (h, k)
    rise_if x xs false h k = k

    rise_kept : (xs : List X) → Rise n xs → Rise n (filter p xs)
    rise_kept [] h = tt
    rise_kept (x ∷ xs) h = rise_if x (filter p xs) (p x) (at_least_kept (n x) xs h.0) (rise_kept xs h.1)

    pub rising-filter : (xs : List X) → IsNonDecreasingBy n xs → IsNonDecreasingBy n (filter p xs)
    rising-filter xs h = rise_to (filter p xs) (rise_kept xs (rise_from xs h))

-- updates, and those of one time

grouped_map : {X : Type 0} (f : X → ℕ × Vector) (class : ℕ → ℕ) (xs gs : List X)
    → ((c : ℕ) → filter (λ x. class (f x).0 == c) gs ≡ filter (λ x. class (f x).0 == c) xs)
    → IsNonDecreasingBy (λ x. class (f x).0) gs → IsGrouped class (map f xs) (map f gs)
grouped_map {X} f class xs gs h rises =
    let one : (c : ℕ) (zs : List X) → of_class class c (map f zs) ≡ map f (filter (λ x. class (f x).0 == c) zs) =
    λ c zs. filter_map f (λ (w : ℕ × Vector). class w.0 == c) zs in
    record {
      in_order = λ c. one c gs ∙ ap (λ (zs : List X). map f zs) (h c) ∙ sym (one c xs);
      rising = rising-map f (λ (w : ℕ × Vector). class w.0) gs rises;
    }

pub grouped_updates : (class : ℕ → ℕ) (us gs : List Update)
    → ((c : ℕ) → filter (λ u. class u.register == c) gs ≡ filter (λ u. class u.register == c) us)
    → IsNonDecreasingBy (λ u. class u.register) gs → IsGrouped class (map unnumbered_update us) (map unnumbered_update gs)
grouped_updates class us gs h rises = grouped_map unnumbered_update class us gs h rises

at-time : (time : ℕ) (ds : List (Due Update))
    → at_time time (map due_assignment ds) ≡ map (λ (d : Due Update). unnumbered_update d.event) (filter (λ d. d.time == time) ds)
at-time time ds =
    ap (λ (us : List (ℕ × (ℕ × Vector))). map (λ u. u.1) us) (filter_map due_assignment (λ (u : ℕ × (ℕ × Vector)). u.0 == time) ds)
    ∙ map-map (λ (u : ℕ × (ℕ × Vector)). u.1) due_assignment (filter (λ d. d.time == time) ds)

pub grouped_due : (class : ℕ → ℕ) (us gs : List (Due Update))
    → ((time c : ℕ) → filter (λ d. class d.event.register == c) (filter (λ d. d.time == time) gs)
    ≡ filter (λ d. class d.event.register == c) (filter (λ d. d.time == time) us))
    → ((time : ℕ) → IsNonDecreasingBy (λ d. class d.event.register) (filter (λ d. d.time == time) gs))
    → (time : ℕ) → IsGrouped class (at_time time (map due_assignment us)) (at_time time (map due_assignment gs))
grouped_due class us gs h rises time =
    rw (at-time time us, at-time time gs)
    (grouped_map (λ (d : Due Update). unnumbered_update d.event) class (filter (λ d. d.time == time) us) (filter (λ d. d.time == time) gs) (h time) (rises time))

-- updates to come are sorted by class, and then by time

pub kept_twice : (class : ℕ → ℕ) (xs ys zs : List (Due Update)) → IsStableByKey (λ d. class d.event.register) nat_cmp xs ys
    → IsStableByKey (λ d. d.time) nat_cmp ys zs → (time c : ℕ)
    → filter (λ d. class d.event.register == c) (filter (λ d. d.time == time) zs) ≡ filter (λ d. class d.event.register == c) (filter (λ d. d.time == time) xs)
kept_twice class xs ys zs by_class by_time time c =
    let p : Due Update → Bool = λ d. class d.event.register == c in
    let q : Due Update → Bool = λ d. d.time == time in
    ap (filter p) (stable_kept (λ (d : Due Update). d.time) time ys zs by_time) ∙ filter_both p q ys
    ∙ ap (filter q) (stable_kept (λ (d : Due Update). class d.event.register) c xs ys by_class) ∙ sym (filter_both p q xs)

pub rising_twice : (class : ℕ → ℕ) (ys zs : List (Due Update)) → IsNonDecreasingBy (λ d. class d.event.register) ys
    → IsStableByKey (λ d. d.time) nat_cmp ys zs → (time : ℕ) → IsNonDecreasingBy (λ d. class d.event.register) (filter (λ d. d.time == time) zs)
rising_twice class ys zs rises by_time time =
    let P : List (Due Update) → Type 0 = λ ds. IsNonDecreasingBy (λ (d : Due Update). class d.event.register) ds in
    subst P (sym (stable_kept (λ (d : Due Update). d.time) time ys zs by_time))
    (rising-filter (λ (d : Due Update). class d.event.register) (λ (d : Due Update). d.time == time) ys rises)

pub rising_times : (ds : List (Due Update)) → IsNonDecreasingBy (λ d. d.time) ds → IsNonDecreasingBy (λ u. u.0) (map due_assignment ds)
rising_times ds h = rising-map due_assignment (λ (u : ℕ × (ℕ × Vector)). u.0) ds h

-- the same of lists that were made of others

pub grouped_listed : (class : ℕ → ℕ) (us listed gs : List Update) → listed ≡ us
    → ((c : ℕ) → filter (λ u. class u.register == c) gs ≡ filter (λ u. class u.register == c) listed)
    → IsNonDecreasingBy (λ u. class u.register) gs → IsGrouped class (map unnumbered_update us) (map unnumbered_update gs)
grouped_listed class us listed gs same h rises =
    grouped_updates class us gs (λ c. h c ∙ ap (λ (xs : List Update). filter (λ u. class u.register == c) xs) same) rises

pub due_listed : (class : ℕ → ℕ) (us listed gs : List (Due Update)) → listed ≡ us
    → ((time c : ℕ) → filter (λ d. class d.event.register == c) (filter (λ d. d.time == time) gs)
    ≡ filter (λ d. class d.event.register == c) (filter (λ d. d.time == time) listed))
    → ((time : ℕ) → IsNonDecreasingBy (λ d. class d.event.register) (filter (λ d. d.time == time) gs))
    → (time : ℕ) → IsGrouped class (at_time time (map due_assignment us)) (at_time time (map due_assignment gs))
due_listed class us listed gs same h rises =
    grouped_due class us gs
    (λ time c. h time c ∙ ap (λ (xs : List (Due Update)). filter (λ d. class d.event.register == c) (filter (λ d. d.time == time) xs)) same) rises

-- Lists and what they contain.
use Rattle.std.proofs.Common.{◌≡◌, ◌⊎◌, ℕ, zero, suc, ◌+◌, ◌<◌, ◌≤◌, List, [], ◌∷◌, ◌++◌, map, take, drop, length, get_or, inl, inr, refl, ap, subst, arith}
use Rattle.std.specs.List.{All, Contains}
use Rattle.std.specs.Prelude.{remove}
use Rattle.std.proofs.lemmas.List.{take_all}
use Rattle.std.proofs.lemmas.List.Elements.{All-contains, All-contains_itself, All-weaker, All-more, Contains-append_cases}

-- lists of which one stands before each of the other's

pub contains_here : {X : Type 0} (x : X) (xs : List X) → Contains (x ∷ xs) x
contains_here {X} x xs = (0, omega arith, refl)

pub contains_later : {X : Type 0} (x y : X) (xs : List X) → Contains xs x → Contains (y ∷ xs) x
contains_later {X} x y xs (k, less, at) = (suc k, omega arith, at)

pub contains_none : {X : Type 0} (x : X) → Contains [] x → ⊥
contains_none {X} x (k, less, at) = omega arith

pub contains_split : {X : Type 0} (x y : X) (xs : List X) → Contains (y ∷ xs) x → (y ≡ x) ⊎ Contains xs x
contains_split {X} x y xs (zero, less, at) = inl at
contains_split {X} x y xs (suc k, less, at) = inr (k, omega arith, at)

pub contains_mapped : {X Y : Type 0} (f : X → Y) (xs : List X) (x : X) → Contains xs x → Contains (map f xs) (f x)
contains_mapped {X} {Y} f [] x there = absurd (contains_none x there)
contains_mapped {X} {Y} f (y ∷ ys) x there =
    elim (contains_split x y ys there) [
      | inl is ↦ subst (λ z. Contains (f y ∷ map f ys) (f z)) is (contains_here (f y) (map f ys))
      | inr later ↦ contains_later (f x) (f y) (map f ys) (contains_mapped f ys x later)
    ]

pub mapped_at : {X Y : Type 0} (f : X → Y) (xs : List X) (y : Y) → Contains (map f xs) y → (x : X) × Contains xs x × (f x ≡ y)
mapped_at {X} {Y} f [] y there = absurd (contains_none y there)
mapped_at {X} {Y} f (x ∷ xs) y there =
    elim (contains_split y (f x) (map f xs) there) [
      | inl is ↦ (x, contains_here x xs, is)
      | inr later ↦ let (z, among, is) = mapped_at f xs y later in (z, contains_later z x xs among, is)
    ]

-- what every element of a list has, every element has of one that is contained in it
pub all_contained : {X : Type 0} (P : X → Type 0) (xs ys : List X) → ((x : X) → Contains xs x → Contains ys x) → All P ys → All P xs
all_contained {X} P xs ys more all = All-weaker (Contains xs) P (λ x there. All-contains P ys x all (more x there)) xs (All-contains_itself xs)

taken_from : {X : Type 0} (n : ℕ) (xs : List X) (x : X) → Contains (take n xs) x → Contains xs x
taken_from {X} zero xs x there = absurd (contains_none x there)
taken_from {X} (suc n) [] x there = there
taken_from {X} (suc n) (y ∷ xs) x there =
    elim (contains_split x y (take n xs) there) [
      | inl is ↦ subst (λ z. Contains (y ∷ xs) z) is (contains_here y xs)
      | inr later ↦ contains_later x y xs (taken_from n xs x later)
    ]

dropped_from : {X : Type 0} (n : ℕ) (xs : List X) (x : X) → Contains (drop n xs) x → Contains xs x
dropped_from {X} zero xs x there = there
dropped_from {X} (suc n) [] x there = there
dropped_from {X} (suc n) (y ∷ xs) x there = contains_later x y xs (dropped_from n xs x there)

pub removed_from : {X : Type 0} (xs : List X) (n : ℕ) (x : X) → Contains (remove xs n) x → Contains xs x
removed_from {X} xs n x there =
    elim (Contains-append_cases (take n xs) (drop (suc n) xs) x there) [
      | inl first ↦ taken_from n xs x first
      | inr last ↦ dropped_from (suc n) xs x last
    ]

-- one element more, of those that a loop has seen
pub one_more : {X : Type 0} (P : X → Type 0) (xs : List X) (at : ℕ) (x : X) → at < length xs → x ≡ get_or xs at x → All P (take at xs) → P x → All P (take (at + 1) xs)
one_more {X} P xs at x below is before own = All-more P xs at x below before (subst P is own)

-- a loop has seen all
pub all_seen : {X : Type 0} (P : X → Type 0) (xs : List X) (at : ℕ) → length xs ≤ at → All P (take at xs) → All P xs
all_seen {X} P xs at over all = subst (All P) (take_all at xs over) all

pub each_same : {X : Type 0} (xs : List (List X)) → map (λ x. [] ++ x) xs ≡ xs
each_same {X} [] = refl
each_same {X} (x ∷ xs) = ap (λ z. x ∷ z) (each_same xs)

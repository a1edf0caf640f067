-- Elements of lists at places.
use Rattle.std.proofs.Common.{◌≡◌, ℕ, zero, suc, ◌+◌, ◌<◌, ◌≤◌, List, [], ◌∷◌, ◌++◌, ◌⊎◌, inl, inr, length, Option, Some, None, refl, ap, arith}
use Rattle.std.specs.Prelude.{slice_get, slice_set}
use Rattle.std.proofs.lemmas.Bool.{cases_lt}

pub get_within : {A : Type 0} → (xs : List A) (i : ℕ) (x : A) → slice_get xs i ≡ Some x → i < length xs
get_within [] i x h = cc
get_within (y ∷ xs) zero x h = omega arith
get_within (y ∷ xs) (suc i) x h = omega (arith, get_within xs i x h)

pub last_or : (q n : ℕ) → q < n + 1 → (q ≡ n) ⊎ (q < n)
last_or q n h = which (cases_lt q n)
  where
    which : (q < n) ⊎ (n ≤ q) → (q ≡ n) ⊎ (q < n)
    which (inl below) = inr below
    which (inr above) = inl (omega (arith, above, h))

pub pushed : {A : Type 0} → (xs : List A) (x y : A) (p : ℕ) → slice_get (xs ++ x ∷ []) p ≡ Some y → (slice_get xs p ≡ Some y) ⊎ ((p ≡ length xs) × (x ≡ y))
pushed [] x y zero h = inr (refl, cc)
pushed [] x y (suc p) h = cc
pushed (z ∷ xs) x y zero h = inl h
pushed (z ∷ xs) x y (suc p) h = further (pushed xs x y p h)
  where
    further : (slice_get xs p ≡ Some y) ⊎ ((p ≡ length xs) × (x ≡ y)) → (slice_get xs p ≡ Some y) ⊎ ((suc p ≡ suc (length xs)) × (x ≡ y))
    further (inl there) = inl there
    further (inr (same, is)) = inr (ap suc same, is)

pub set_none : {A : Type 0} → (xs : List (Option A)) (i p : ℕ) (y : A) → slice_get (slice_set xs i None) p ≡ Some (Some y) → slice_get xs p ≡ Some (Some y)
set_none [] i p y h = h
set_none (x ∷ xs) zero zero y h = cc
set_none (x ∷ xs) zero (suc p) y h = h
set_none (x ∷ xs) (suc i) zero y h = h
set_none (x ∷ xs) (suc i) (suc p) y h = set_none xs i p y h

-- Marks, and sets of actors by their marks.
use Rattle.std.proofs.Common.{◌≡◌, ◌≢◌, ℕ, zero, suc, ◌+◌, ◌<◌, ◌≤◌, Bool, true, false, ◌||◌, ◌==◌, List, [], ◌∷◌, ◌++◌, length, get_or, take, refl, sym, ap, ◌∙◌, eqb-true, eq-eqb, get_or-set_same, get_or-set_other, take_all}
use Rattle.std.specs.Prelude.{slice_set}
use Rattle.std.specs.List.{list_any}
use Rattle.std.proofs.Math.Bool.{or_assoc}
use Rattle.std.proofs.Math.ListN.{replicate}
use Rattle.std.proofs.lemmas.List.Folds.{list_any_more}
use Rattle.certificates.specs.Marks.{is_marked}
use Rattle.certificates.proofs.Tests.{or_right, never_true}

pub or_none : (b : Bool) → b ≡ (b || false)
or_none true = refl
or_none false = refl

none_marked : (k n : ℕ) → get_or (replicate k false) n false ≡ false
none_marked zero n = refl
none_marked (suc k) zero = refl
none_marked (suc k) (suc n) = none_marked k n

padded : (xs : List Bool) (k n : ℕ) → is_marked (xs ++ replicate k false) n ≡ is_marked xs n
padded [] k n = none_marked k n
padded (x ∷ xs) k zero = refl
padded (x ∷ xs) k (suc n) = padded xs k n

pub room_is_unmarked : (xs ys : List Bool) (count k : ℕ) → length xs ≤ count → ys ≡ take count xs ++ replicate k false → (n : ℕ) → is_marked ys n ≡ is_marked xs n
room_is_unmarked xs ys count k less is n =
    ap (λ zs. is_marked zs n) (is ∙ ap (λ zs. zs ++ replicate k false) (take_all count xs less)) ∙ padded xs k n

set_if : (xs : List Bool) (i n : ℕ) (b : Bool) → (i == n) ≡ b → i < length xs → is_marked (slice_set xs i true) n ≡ (is_marked xs n || b)
set_if xs i n true is less =
    ap (λ m. is_marked (slice_set xs i true) m) (sym (eqb-true i n is)) ∙ get_or-set_same xs i true false less ∙ sym (or_right (is_marked xs n) true refl)
set_if xs i n false is less =
    let other : n ≢ i = λ same. never_true (i == n) (eq-eqb i n (sym same)) is in
    get_or-set_other xs i n true false other ∙ or_none (is_marked xs n)

pub set_marked : (xs : List Bool) (i n : ℕ) → i < length xs → is_marked (slice_set xs i true) n ≡ (is_marked xs n || (i == n))
set_marked xs i n less = set_if xs i n (i == n) refl less

-- one number more is marked
pub marked_more : {X : Type 0} (number : X → ℕ) (xs : List X) (i : ℕ) (d : X) (old mid new : List Bool) (added : ℕ) → i < length xs → added ≡ number (get_or xs i d)
    → ((n : ℕ) → is_marked mid n ≡ (is_marked old n || list_any (λ x. number x == n) (take i xs))) → ((n : ℕ) → is_marked new n ≡ (is_marked mid n || added == n))
    → (n : ℕ) → is_marked new n ≡ (is_marked old n || list_any (λ x. number x == n) (take (i + 1) xs))
marked_more number xs i d old mid new added below is before one n =
    one n
    ∙ (ap (λ (b : Bool). b || added == n) (before n)
    ∙ (ap (λ (k : ℕ). is_marked old n || list_any (λ x. number x == n) (take i xs) || k == n) is
    ∙ (or_assoc (is_marked old n) (list_any (λ x. number x == n) (take i xs)) (number (get_or xs i d) == n)
    ∙ ap (λ (b : Bool). is_marked old n || b) (sym (list_any_more (λ x. number x == n) xs i d below)))))

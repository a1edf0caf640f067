-- Tests, and lists of which an element passes one.
use Rattle.std.proofs.Common.{◌≡◌, ◌⊎◌, ℕ, zero, suc, ◌<◌, Bool, true, false, ◌&&◌, ◌||◌, ◌==◌, List, [], ◌∷◌, length, get_or, map, inl, inr, refl, sym, subst, arith, eq-eqb}
use Rattle.std.specs.List.{list_any, Contains}
use Rattle.model.specs.Turns.{contains}

pub or_left : (a b : Bool) → a ≡ true → (a || b) ≡ true
or_left true b h = refl
or_left false b h = cc

pub or_right : (a b : Bool) → b ≡ true → (a || b) ≡ true
or_right true b h = refl
or_right false b h = h

pub or_cases : (a b : Bool) → (a || b) ≡ true → (a ≡ true) ⊎ (b ≡ true)
or_cases true b h = inl refl
or_cases false b h = inr h

pub and_both : (a b : Bool) → a ≡ true → b ≡ true → (a && b) ≡ true
and_both true b h k = k
and_both false b h k = cc

pub and_parts : (a b : Bool) → (a && b) ≡ true → (a ≡ true) × (b ≡ true)
and_parts true b h = (refl, h)
and_parts false b h = cc

pub is_or_not : (b : Bool) → (b ≡ true) ⊎ (b ≡ false)
is_or_not true = inl refl
is_or_not false = inr refl

pub false_by : (x y : Bool) → (x ≡ true → y ≡ true) → y ≡ false → x ≡ false
false_by true y more none = let h : y ≡ true = more refl in cc
false_by false y more none = refl

pub never_true : (x : Bool) → x ≡ true → x ≡ false → ⊥
never_true true h none = cc
never_true false h none = cc

-- two that aren't both so, where two others follow from them that aren't
pub implied : (x y v w : Bool) → (x ≡ true → v ≡ true) → (y ≡ true → w ≡ true) → (v && w) ≡ false → (x && y) ≡ false
implied x y v w more more' none =
    false_by (x && y) (v && w) (λ h. let (is, is') = and_parts x y h in and_both v w (more is) (more' is')) none

pub not_both : (x y : Bool) → (x ≡ true → y ≡ true → ⊥) → (x && y) ≡ false
not_both true true never = absurd (never refl refl)
not_both true false never = refl
not_both false y never = refl

pub same_number : (k : ℕ) → (k == k) ≡ true
same_number k = eq-eqb k k refl

-- an element that passes, and back

pub any_at : {X : Type 0} (test : X → Bool) (xs : List X) → list_any test xs ≡ true → (x : X) × Contains xs x × (test x ≡ true)
any_at {X} test [] h = cc
any_at {X} test (x ∷ xs) h =
    elim (or_cases (test x) (list_any test xs) h) [
      | inl is ↦ let here : Contains (x ∷ xs) x = (0, omega arith, refl) in (x, here, is)
      | inr later ↦
          let (y, (k, less, at), is) = any_at test xs later in
          let there : Contains (x ∷ xs) y = (suc k, omega arith, at) in
          (y, there, is)
    ]

pub any_of : {X : Type 0} (test : X → Bool) (xs : List X) (x : X) (k : ℕ) → k < length xs → get_or xs k x ≡ x → test x ≡ true → list_any test xs ≡ true
any_of {X} test [] x k less at is = absurd (omega arith)
any_of {X} test (y ∷ ys) x zero less at is = or_left (test y) (list_any test ys) (subst (λ z. test z ≡ true) (sym at) is)
any_of {X} test (y ∷ ys) x (suc k) less at is = or_right (test y) (list_any test ys) (any_of test ys x k (omega arith) at is)

pub any_in : {X : Type 0} (test : X → Bool) (xs : List X) (x : X) → Contains xs x → test x ≡ true → list_any test xs ≡ true
any_in {X} test xs x (k, less, at) is = any_of test xs x k less at is

pub any_mapped : {X Y : Type 0} (test : Y → Bool) (f : X → Y) (xs : List X) → list_any test (map f xs) ≡ list_any (λ x. test (f x)) xs
any_mapped {X} {Y} test f [] = refl
any_mapped {X} {Y} test f (x ∷ xs) = rw (any_mapped test f xs)

-- where one list is among another, a test that an element of it passes is passed by one of the other
pub any_told : {X : Type 0} (test : X → Bool) (xs ys : List X) → ((x : X) → Contains xs x → Contains ys x) → list_any test xs ≡ true → list_any test ys ≡ true
any_told {X} test xs ys told h = let (x, there, is) = any_at test xs h in any_in test ys x (told x there) is

pub one_of : (has : ℕ → Bool) (ps : List ℕ) → list_any has ps ≡ true → (p : ℕ) × (contains ps p ≡ true) × (has p ≡ true)
one_of has [] h = cc
one_of has (p ∷ ps) h =
    elim (or_cases (has p) (list_any has ps) h) [
      | inl is ↦ (p, or_left (p == p) (contains ps p) (same_number p), is)
      | inr later ↦ let (q, among, is) = one_of has ps later in (q, or_right (p == q) (contains ps q) among, is)
    ]

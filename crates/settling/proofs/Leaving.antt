-- Writes that leave every value as it is.
use Rattle.std.proofs.Common.{◌≡◌, ◌<◌, ◌+◌, ◌⊎◌, inl, inr, ℕ, suc, Bool, true, false, List, [], ◌∷◌, map, length, drop, refl, sym, ap, subst, ◌∙◌, arith, get_or, ◌==◌, ◌||◌, if◌then◌else◌}
use Rattle.std.specs.Prelude.{slice_set}
use Rattle.std.specs.List.{list_any}
use Rattle.std.proofs.lemmas.Bool.{eqb-true}
use Rattle.std.proofs.lemmas.Bool.Decides.{eqb_tells}
use Rattle.std.proofs.lemmas.List.{get_or_default}
use Rattle.logic4.specs.Vector.{Vector}
use Rattle.logic4.specs.Operators.{same_vector}
use Rattle.logic4.specs.Sameness.{same_vector-self}
use Rattle.model.specs.Expressions.{Store, value_of}
use Rattle.model.specs.Turns.{contains}
use Rattle.orders.specs.Apart.{given, all_given}
use Rattle.orders.proofs.Stores.{same_store, length_given, given_other, length_all}
use Rattle.phases.proofs.Values.{written_same}

-- the write at a place is followed by one of the same register, or its register has the value in this store
abbrev pub LeavesAt : Store → List (ℕ × Vector) → ℕ → Type 0
LeavesAt a ws k =
    (d : ℕ × Vector) → (list_any (λ w. w.0 == (get_or ws k d).0) (drop (k + 1) ws) ≡ true) ⊎ (value_of a (get_or ws k d).0 ≡ (get_or ws k d).1)

-- the writes that are left do
abbrev LeavesAll : Store → List (ℕ × Vector) → Type 0
LeavesAll a [] = Unit {0}
LeavesAll a (w ∷ ws) = ((list_any (λ v. v.0 == w.0) ws ≡ true) ⊎ (value_of a w.0 ≡ w.1)) × LeavesAll a ws

leaves_next : (a : Store) (w : ℕ × Vector) (ws : List (ℕ × Vector)) (k : ℕ) → LeavesAt a (w ∷ ws) (suc k) → LeavesAt a ws k
leaves_next a w ws k h d =
    let next : suc k + 1 ≡ suc (k + 1) = omega arith in
    subst (λ n. (list_any (λ v. v.0 == (get_or ws k d).0) (drop n (w ∷ ws)) ≡ true) ⊎ (value_of a (get_or ws k d).0 ≡ (get_or ws k d).1)) next (h d)

leaves_first : (a : Store) (w : ℕ × Vector) (ws : List (ℕ × Vector)) → LeavesAt a (w ∷ ws) 0 → (list_any (λ v. v.0 == w.0) ws ≡ true) ⊎ (value_of a w.0 ≡ w.1)
leaves_first a w ws h = h w

leaves_each : (a : Store) (ws : List (ℕ × Vector)) → ((k : ℕ) → k < length ws → LeavesAt a ws k) → LeavesAll a ws
leaves_each a [] h = tt
leaves_each a (w ∷ ws) h =
    (leaves_first a w ws (h 0 (omega arith)), leaves_each a ws (λ k within. leaves_next a w ws k (h (suc k) (omega (arith, within)))))

-- a register is given the value that it has in another store

own_if : (a : Store) (w : ℕ × Vector) (is : Bool) → same_vector (value_of a w.0) w.1 ≡ is → value_of a w.0 ≡ w.1 → (if is then a else slice_set a w.0 w.1) ≡ a
own_if a w true is h = refl
own_if a w false is h =
    let same : same_vector (value_of a w.0) w.1 ≡ true = ap (same_vector (value_of a w.0)) (sym h) ∙ same_vector-self (value_of a w.0) in
    absurd (cc)

value_given : (a b : Store) (w : ℕ × Vector) (r : ℕ) → length a ≡ length b → (w.0 == r) ≡ true → value_of a w.0 ≡ w.1 → value_of (given b w) r ≡ value_of a r
value_given a b w r len is h =
    let there : contains (map (λ (v : ℕ × Vector). v.0) (w ∷ [])) r ≡ true = rw is refl in
    sym (written_same a b (w ∷ []) r len there) ∙ ap (λ (s : Store). value_of s r) (own_if a w (same_vector (value_of a w.0) w.1) refl h)

-- behind the writes a register that is written, or has its value, has its value

behind_first : (a b : Store) (w : ℕ × Vector) (ws : List (ℕ × Vector)) (r : ℕ) (is : Bool) → (w.0 == r) ≡ is → length a ≡ length b → (list_any (λ v. v.0 == w.0) ws ≡ true) ⊎ (value_of a w.0 ≡ w.1)
    → (value_of b r ≡ value_of a r) ⊎ ((is || list_any (λ v. v.0 == r) ws) ≡ true) → (value_of (given b w) r ≡ value_of a r) ⊎ (list_any (λ v. v.0 == r) ws ≡ true)
behind_first a b w ws r true is len (inl later) h = inr (ap (λ q. list_any (λ v. v.0 == q) ws) (sym (eqb-true w.0 r is)) ∙ later)
behind_first a b w ws r true is len (inr own) h = inl (value_given a b w r len is own)
behind_first a b w ws r false is len h (inl same) =
    let other : (r == w.0) ≡ false = grind (arith, eqb_tells r w.0, eqb_tells w.0 r, is) in
    inl (given_other b w r other ∙ same)
behind_first a b w ws r false is len h (inr later) = inr later

behind : (a b : Store) (ws : List (ℕ × Vector)) (r : ℕ) → length a ≡ length b → LeavesAll a ws → (value_of b r ≡ value_of a r) ⊎ (list_any (λ v. v.0 == r) ws ≡ true) → value_of (all_given b ws) r ≡ value_of a r
behind a b [] r len h (inl same) = same
behind a b [] r len h (inr there) = absurd (cc)
behind a b (w ∷ ws) r len (first, later) h =
    behind a (given b w) ws r (len ∙ sym (length_given b w)) later (behind_first a b w ws r (w.0 == r) refl len first h)

pub leaves_store : (a : Store) (ws : List (ℕ × Vector)) → ((k : ℕ) → k < length ws → LeavesAt a ws k) → all_given a ws ≡ a
leaves_store a ws h =
    same_store (all_given a ws) a (length_all a ws) (λ r. behind a a ws r refl (leaves_each a ws h) (inl refl))

-- a write behind the one at a place is of the same register
pub later_written : (ws rest : List (ℕ × Vector)) (k : ℕ) (w d : ℕ × Vector) (b : Bool) → k < length ws → w ≡ get_or ws k w → rest ≡ drop (k + 1) ws → b ≡ list_any (λ (v : ℕ × Vector). v.0 == w.0) rest → b ≡ true
    → list_any (λ (v : ℕ × Vector). v.0 == (get_or ws k d).0) (drop (k + 1) ws) ≡ true
later_written ws rest k w d b within is behind any on =
    let same : w ≡ get_or ws k d = is ∙ get_or_default ws k w d within in
    subst (λ (x : ℕ × Vector). list_any (λ (v : ℕ × Vector). v.0 == x.0) (drop (k + 1) ws) ≡ true) same
    (subst (λ (l : List (ℕ × Vector)). list_any (λ (v : ℕ × Vector). v.0 == w.0) l ≡ true) behind (sym any ∙ on))

-- Lists that are grouped by class are the same where those of each class are.
use Rattle.std.proofs.Common.{◌≡◌, ℕ, ◌<◌, ◌≤◌, ◌==◌, Bool, true, false, cond, List, [], ◌∷◌, filter, inl, inr, refl, sym, ap, ◌∙◌, arith, eq-eqb}
use Rattle.std.proofs.lemmas.Bool.{cond-true, cond-false, eqb-true, cases_lt}
use Rattle.std.proofs.lemmas.Bool.Decides.{nat_tests}
use Rattle.logic4.specs.Vector.{Vector}
use Rattle.statekeys.specs.KeyLaws.{GroupingIsUnique}
use Rattle.statekeys.proofs.Classes.{AreAtLeast, Rise, rise_from}

abbrev head_or : {X : Type 0} → X → List X → X
head_or d [] = d
head_or d (x ∷ xs) = x

abbrev tail : {X : Type 0} → List X → List X
tail [] = []
tail (x ∷ xs) = xs

abbrev is_some : {X : Type 0} → List X → ℕ
is_some [] = 0
is_some (x ∷ xs) = 1

module _ {X : Type 0} (n : X → ℕ) where
  abbrev at : ℕ → List X → List X
  at c xs = filter (λ x. n x == c) xs

  first_at : (x : X) (xs : List X) → at (n x) (x ∷ xs) ≡ x ∷ at (n x) xs
  first_at x xs = cond-true _ _ _ (eq-eqb (n x) (n x) refl)

  none_at : (c m : ℕ) (ys : List X) → c < m → AreAtLeast n m ys → at c ys ≡ []
  none_at c m [] lt h = refl
  none_at c m (y ∷ ys) lt h =
      let le : m ≤ n y = h.0 in
      let other : (n y == c) ≡ false = grind (arith, nat_tests) in
      cond-false _ _ _ other ∙ none_at c m ys lt h.1

  not_below : (x y : X) (xs ys : List X) → AreAtLeast n (n y) ys → at (n x) (x ∷ xs) ≡ at (n x) (y ∷ ys) → n x < n y → ⊥
  not_below x y xs ys h same lt =
      let none : at (n x) (y ∷ ys) ≡ [] = none_at (n x) (n y) (y ∷ ys) lt (omega arith, h) in
      let zero_is : ◌≡◌ {A = ℕ} 1 0 = ap is_some (sym (first_at x xs) ∙ same ∙ none) in
      omega (arith, zero_is)

  rest_if : (x y : X) (xs ys : List X) (b d : Bool) → b ≡ d → (b ≡ true → xs ≡ ys) → cond b (x ∷ xs) xs ≡ cond d (y ∷ ys) ys → xs ≡ ys
  rest_if x y xs ys true true is h same = h refl
  rest_if x y xs ys false false is h same = same
  rest_if x y xs ys true false is h same = h refl
  rest_if x y xs ys false true is h same = h is

  same_grouped : (xs ys : List X) → Rise n xs → Rise n ys → ((c : ℕ) → at c xs ≡ at c ys) → xs ≡ ys
  same_grouped [] [] g h same = refl
  same_grouped [] (y ∷ ys) g h same =
      let differ : ◌≡◌ {A = ℕ} 0 1 = ap is_some (same (n y) ∙ first_at y ys) in absurd (omega (arith, differ))
  same_grouped (x ∷ xs) [] g h same =
      let differ : ◌≡◌ {A = ℕ} 1 0 = ap is_some (sym (first_at x xs) ∙ same (n x)) in absurd (omega (arith, differ))
  same_grouped (x ∷ xs) (y ∷ ys) g h same =
      let above : n x < n y → ⊥ = not_below x y xs ys h.0 (same (n x)) in
      let below : n y < n x → ⊥ = not_below y x ys xs g.0 (sym (same (n y))) in
      let one : n x ≡ n y =
      elim (cases_lt (n x) (n y)) [
        | inl lt ↦ absurd (above lt)
        | inr le ↦ elim (cases_lt (n y) (n x)) [
          | inl lt ↦ absurd (below lt)
          | inr ge ↦ omega arith
        ]
      ] in
      let front : x ∷ at (n x) xs ≡ y ∷ at (n x) ys =
      sym (first_at x xs) ∙ same (n x) ∙ ap (λ c. at c (y ∷ ys)) one ∙ first_at y ys ∙ ap (λ c. y ∷ at c ys) (sym one) in
      let rest : (c : ℕ) → at c xs ≡ at c ys =
      λ c. rest_if x y (at c xs) (at c ys) (n x == c) (n y == c) (ap (λ m. m == c) one)
      (λ is. ap (λ m. at m xs) (sym (eqb-true (n x) c is)) ∙ ap tail front ∙ ap (λ m. at m ys) (eqb-true (n x) c is)) (same c) in
      let all = same_grouped xs ys g.1 h.1 rest in
      let first : x ≡ y = ap (head_or x) front in
      λ k. first k ∷ all k

pub grouping_is_unique : GroupingIsUnique
grouping_is_unique class us vs gs hs same g h =
    same_grouped (λ (w : ℕ × Vector). class w.0) gs hs (rise_from (λ (w : ℕ × Vector). class w.0) gs g.rising) (rise_from (λ (w : ℕ × Vector). class w.0) hs h.rising)
    (λ c. g.in_order c ∙ same c ∙ sym (h.in_order c))

-- Lists of steps, and those of one part among them.
use Rattle.std.proofs.Common.{◌≡◌, ◌≢◌, ◌⊎◌, ℕ, Bool, true, false, cond, ◌==◌, List, [], ◌∷◌, ◌++◌, inl, inr, refl, sym, ap, ◌∙◌, append_assoc, eq-eqb, eqb-true, ne_eqb}
use Rattle.traces.specs.Traces.{Moves, printed_by_steps, NoneEnds, AreOfPart, of_part, in_order, IsNoneOf}

-- a test is true or false
both_ways : (b : Bool) → b ≡ true → b ≡ false → ⊥
both_ways true g h = cc
both_ways false g h = cc

by_test : (i k : ℕ) (b : Bool) → (i == k) ≡ b → (i ≡ k) ⊎ (i ≢ k)
by_test i k true e = inl (eqb-true i k e)
by_test i k false e = inr (λ same. both_ways (i == k) (eq-eqb i k same) e)

-- two parts are one, or they differ
pub same_or_other : (i k : ℕ) → (i ≡ k) ⊎ (i ≢ k)
same_or_other i k = by_test i k (i == k) refl

module _ (L F : Type 0) (part : L → ℕ) (k : ℕ) where
  -- steps of one part before others of it
  pub own_both : (x y : List (L × F)) → AreOfPart part k x → AreOfPart part k y → AreOfPart part k (x ++ y)
  own_both [] y of of' = of'
  own_both (s ∷ x) y (own, of) of' = (own, own_both x y of of')

  pub own_first : (x : L × F) (w : List (L × F)) → part x.0 ≡ k → of_part part k (x ∷ w) ≡ x ∷ of_part part k w
  own_first x w own = ap (λ (b : Bool). cond b (x ∷ of_part part k w) (of_part part k w)) (eq-eqb (part x.0) k own)

  pub other_first : (x : L × F) (w : List (L × F)) → part x.0 ≢ k → of_part part k (x ∷ w) ≡ of_part part k w
  other_first x w other = ap (λ (b : Bool). cond b (x ∷ of_part part k w) (of_part part k w)) (ne_eqb (part x.0) k other)

  own_if : (x : L × F) (w : List (L × F)) (b : Bool) → (part x.0 == k) ≡ b → AreOfPart part k w → AreOfPart part k (cond b (x ∷ w) w)
  own_if x w true e of = (eqb-true (part x.0) k e, of)
  own_if x w false e of = of

  pub own_steps : (w : List (L × F)) → AreOfPart part k (of_part part k w)
  own_steps [] = tt
  own_steps (x ∷ w) = own_if x (of_part part k w) (part x.0 == k) refl (own_steps w)

module _ (S L F : Type 0) (moves : Moves S L F) where
  free_if : (x : L × F) (w : List (L × F)) (b : Bool) → (moves.Ends x.1 → ⊥) → NoneEnds moves.Ends w → NoneEnds moves.Ends (cond b (x ∷ w) w)
  free_if x w true free none = (free, none)
  free_if x w false free none = none

  pub none_of_part : (part : L → ℕ) (k : ℕ) (w : List (L × F)) → NoneEnds moves.Ends w → NoneEnds moves.Ends (of_part part k w)
  none_of_part part k [] none = tt
  none_of_part part k (x ∷ w) (free, none) = free_if x (of_part part k w) (part x.0 == k) free (none_of_part part k w none)

  pub printed_both : (x y : List (L × F)) → printed_by_steps moves.prints (x ++ y) ≡ printed_by_steps moves.prints x ++ printed_by_steps moves.prints y
  printed_both [] y = refl
  printed_both (s ∷ x) y = ap (λ z. moves.prints s.1 ++ z) (printed_both x y) ∙ sym (append_assoc (moves.prints s.1) (printed_by_steps moves.prints x) (printed_by_steps moves.prints y))

module _ (L F : Type 0) (part : L → ℕ) where
  -- a step of a part that isn't among some leaves no trace in their order
  pub not_there : (ks : List ℕ) (x : L × F) (w : List (L × F)) → IsNoneOf (part x.0) ks → in_order part ks (x ∷ w) ≡ in_order part ks w
  not_there [] x w none = refl
  not_there (k ∷ ks) x w (differ, none) =
      let other : part x.0 ≢ k = λ same. differ (sym same) in
      ap (λ z. z ++ in_order part ks (x ∷ w)) (other_first L F part k x w other) ∙ ap (λ z. of_part part k w ++ z) (not_there ks x w none)

  -- where the part of a step is the first, the step is
  pub there_first : (k : ℕ) (ks : List ℕ) (x : L × F) (w : List (L × F)) → k ≡ part x.0 → IsNoneOf (part x.0) ks → in_order part (k ∷ ks) (x ∷ w) ≡ x ∷ in_order part (k ∷ ks) w
  there_first k ks x w same none =
      ap (λ z. z ++ in_order part ks (x ∷ w)) (own_first L F part k x w (sym same)) ∙ ap (λ z. x ∷ (of_part part k w ++ z)) (not_there ks x w none)

  pub nothing_in_order : (ks : List ℕ) → in_order {L = L} {F = F} part ks [] ≡ []
  nothing_in_order [] = refl
  nothing_in_order (k ∷ ks) = nothing_in_order ks

-- Ways chosen for some parts.
use Rattle.std.proofs.Common.{◌≡◌, ◌⊎◌, ℕ, List, [], ◌∷◌, ◌++◌, inl, inr, refl, sym, ap, ◌∙◌, subst}
use Rattle.traces.specs.Traces.{Moves, AreMoves, IsRunOfMoves, printed_by_steps, NoneEnds, IsNoneOf, IsOneOf, IsOnceIn, AreOnceIn, ArePartsApart, IsWayOfPart, HaveWays, all_ways}
use Rattle.traces.specs.StandsFor.{AreDifferent}
use Rattle.traces.proofs.PartLists.{same_or_other, printed_both}
use Rattle.traces.proofs.Squares.{at_once}
use Rattle.traces.proofs.PartsKept.{parts_kept}
use Rattle.traces.proofs.Together.{not_both}

-- a number is one of some, or it isn't
pub one_or_none : (k : ℕ) (ks : List ℕ) → IsOneOf k ks ⊎ (IsOneOf k ks → ⊥)
one_or_none k [] = inr (λ one. one)
one_or_none k (i ∷ ks) =
    elim (same_or_other i k) [
      | inl is ↦ inl (inl is)
      | inr differ ↦
          elim (one_or_none k ks) [
            | inl one ↦ inl (inr one)
            | inr none ↦ inr (λ one. elim one [ inl is ↦ differ is | inr later ↦ none later ])
          ]
    ]

pub once_in : (k : ℕ) (ks : List ℕ) → IsOneOf k ks → AreDifferent ks → IsOnceIn k ks
once_in k [] one different = one
once_in k (i ∷ ks) (inl is) (none, different) = inl (is, subst (λ z. IsNoneOf z ks) is none)
once_in k (i ∷ ks) (inr one) (none, different) = inr (not_both i k ks none one, once_in k ks one different)

module _ (X : Type 0) (P : ℕ → X → Type 0) (default : X) (ks : List ℕ) (h : (k : ℕ) → IsOneOf k ks → (x : X) × P k x) where
  pick : (k : ℕ) → IsOneOf k ks ⊎ (IsOneOf k ks → ⊥) → X
  pick k (inl one) = (h k one).0
  pick k (inr none) = default

  picked_by : (k : ℕ) (d : IsOneOf k ks ⊎ (IsOneOf k ks → ⊥)) → IsOneOf k ks → P k (pick k d)
  unfolding pick
  picked_by k (inl one) one' = (h k one).1
  picked_by k (inr none) one' = absurd (none one')

  -- what is chosen for each of some numbers
  pub chosen : ℕ → X
  chosen k = pick k (one_or_none k ks)

  pub is_chosen : (k : ℕ) → IsOneOf k ks → P k (chosen k)
  unfolding chosen
  is_chosen k one = picked_by k (one_or_none k ks) one

module _ (S L F : Type 0) (moves : Moves S L F) (part : L → ℕ) where
  pub have_ways : (s : S) (ways : ℕ → List (L × F)) (ks : List ℕ) → AreDifferent ks → ((k : ℕ) → IsOneOf k ks → IsWayOfPart moves part s k (ways k)) → HaveWays moves part s ways ks
  have_ways s ways [] different h = tt
  have_ways s ways (k ∷ ks) (none, different) h = (none, h k (inl refl), have_ways s ways ks different (λ j one. h j (inr one)))

  none_both : (x y : List (L × F)) → NoneEnds moves.Ends x → NoneEnds moves.Ends y → NoneEnds moves.Ends (x ++ y)
  none_both [] y none none' = none'
  none_both (s ∷ x) y (free, none) none' = (free, none_both x y none none')

  pub none_all : (s : S) (ways : ℕ → List (L × F)) (ks : List ℕ) → HaveWays moves part s ways ks → NoneEnds moves.Ends (all_ways ways ks)
  none_all s ways [] have = tt
  none_all s ways (k ∷ ks) (alone, (u, run, of, none), have) = none_both (ways k) (all_ways ways ks) none (none_all s ways ks have)

  pub same_prints : (ways others : ℕ → List (L × F)) (ks : List ℕ) → ((k : ℕ) → IsOneOf k ks → printed_by_steps moves.prints (ways k) ≡ printed_by_steps moves.prints (others k))
      → printed_by_steps moves.prints (all_ways ways ks) ≡ printed_by_steps moves.prints (all_ways others ks)
  same_prints ways others [] h = refl
  same_prints ways others (k ∷ ks) h =
      printed_both S L F moves (ways k) (all_ways ways ks)
      ∙ ap (λ z. z ++ printed_by_steps moves.prints (all_ways ways ks)) (h k (inl refl))
      ∙ ap (λ z. printed_by_steps moves.prints (others k) ++ z) (same_prints ways others ks (λ j one. h j (inr one)))
      ∙ sym (printed_both S L F moves (others k) (all_ways others ks))

module _ (S L F : Type 0) (moves : Moves S L F) (laws : AreMoves moves) (part : L → ℕ) (ks : List ℕ) (different : AreDifferent ks) where
  -- where the parts of all who wait are among some, so are those of all who step
  pub all_once : (s t : S) (w : List (L × F)) → ArePartsApart moves part s → IsRunOfMoves moves s w t → NoneEnds moves.Ends w → ((a : L) → moves.Waits s a → IsOneOf (part a) ks) → AreOnceIn part ks w
  all_once s t [] parts run none all = tt
  all_once s t (x ∷ w) parts (m, step, later) (free, none) all =
      let first : IsOneOf (part x.0) ks = all x.0 (laws.waiting s m x.0 x.1 step) in
      let still : (a : L) → moves.Waits m a → IsOneOf (part a) ks = λ a waits.
      elim (laws.given s m x.0 a x.1 step waits) [
        | inl before ↦ all a before
        | inr gives ↦ subst (λ z. IsOneOf z ks) (sym (parts.kept (part x.0) x.0 a x.1 (at_once S L F moves part (part x.0) s m x.0 x.1 refl step) gives)) first
      ] in
      (once_in (part x.0) ks first different, all_once m t w (parts_kept S L F moves laws part s m x.0 x.1 parts step free) later none still)

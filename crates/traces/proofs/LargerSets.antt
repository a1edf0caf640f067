-- What stands for all that a set of actors does stands for all that a larger set does, of which nobody else waits.
use Rattle.std.proofs.Common.{◌≡◌, Bool, true, List, [], ◌∷◌, ◌++◌, inl, inr, refl, sym, subst}
use Rattle.traces.specs.Traces.{Moves, AreMoves, IsRunOfMoves, printed_by_steps, NoneEnds, AreAmong}
use Rattle.traces.specs.StandsFor.{RunsAlone, FoundOfSet, HasWayTo, StandsFor, LargerSets}
use Rattle.traces.proofs.RunLaws.{runs_both}

among_both : {L F : Type 0} (Has : L → Type 0) (x y : List (L × F)) → AreAmong Has x → AreAmong Has y → AreAmong Has (x ++ y)
among_both Has [] y of of' = of'
among_both Has (s ∷ x) y (own, of) of' = (own, among_both Has x y of of')

none_both : {L F : Type 0} (Ends : F → Type 0) (x y : List (L × F)) → NoneEnds Ends x → NoneEnds Ends y → NoneEnds Ends (x ++ y)
none_both Ends [] y none none' = none'
none_both Ends (s ∷ x) y (free, none) none' = (free, none_both Ends x y none none')

among_more : {L F : Type 0} (among others : L → Bool) → ((a : L) → among a ≡ true → others a ≡ true) → (w : List (L × F)) → AreAmong (λ a. among a ≡ true) w → AreAmong (λ a. others a ≡ true) w
among_more among others more [] of = tt
among_more among others more (x ∷ w) (own, of) = (more x.0 own, among_more among others more w of)

module _ (S L F Y : Type 0) (moves : Moves S L F) (Within : F → Y → Type 0) (laws : AreMoves moves) (among others : L → Bool) (s : S) (found : FoundOfSet L F Y)
    (more : (a : L) → among a ≡ true → others a ≡ true) (stands : StandsFor moves Within among s found) where
  -- whoever is of the larger set and waits is of the smaller
  abbrev OwnWait : S → Type 0
  OwnWait m = (a : L) → others a ≡ true → moves.Waits m a → among a ≡ true

  own_after : (w : List (L × F)) (m n : S) (a : L) (f : F) → RunsAlone moves among s w m → OwnWait m → among a ≡ true → moves.Steps m a f n → OwnWait n
  own_after w m n a f alone own is step b is' waits =
      elim (laws.given m n a b f step waits) [
        | inl before ↦ own b is' before
        | inr gives ↦ stands.kept w m n a b f alone is step gives
      ]

  extended : (w : List (L × F)) (m n : S) (x : L × F) → RunsAlone moves among s w m → among x.0 ≡ true → (moves.Ends x.1 → ⊥) → moves.Steps m x.0 x.1 n → RunsAlone moves among s (w ++ (x ∷ [])) n
  extended w m n x (run, of, none) is free step = (
    runs_both S L F moves s m n w (x ∷ []) run (n, step, refl),
    among_both (λ a. among a ≡ true) w (x ∷ []) of (is, tt),
    none_both moves.Ends w (x ∷ []) none (free, tt),
  )

  -- a run of the larger set is one of the smaller
  rest_own : (w y : List (L × F)) (m t : S) → RunsAlone moves among s w m → OwnWait m → IsRunOfMoves moves m y t → AreAmong (λ a. others a ≡ true) y → NoneEnds moves.Ends y → AreAmong (λ a. among a ≡ true) y × OwnWait t
  rest_own w [] m t alone own is of none = (tt, λ a is' waits. own a is' (subst (λ z. moves.Waits z a) (sym is) waits))
  rest_own w (x ∷ y) m t alone own (n, step, run) (is, of) (free, none) =
      let first : among x.0 ≡ true = own x.0 is (laws.waiting m n x.0 x.1 step) in
      let (rest, last) = rest_own (w ++ (x ∷ [])) y n t (extended w m n x alone first free step) (own_after w m n x.0 x.1 alone own first step) run of none in
      ((first, rest), last)

  module _ (own : OwnWait s) where
    narrow : (w : List (L × F)) (t : S) → RunsAlone moves others s w t → RunsAlone moves among s w t × OwnWait t
    narrow w t (run, of, none) =
        let (of', last) = rest_own [] w s t (refl, tt, tt) own run of none in
        ((run, of', none), last)

    actor_own : (w : List (L × F)) (t u : S) (a : L) (f : F) → RunsAlone moves others s w t → others a ≡ true → moves.Steps t a f u → among a ≡ true
    actor_own w t u a f alone is step = (narrow w t alone).1 a is (laws.waiting t u a f step)

    goes_on_by : (w : List (L × F)) (t : S) (a : L) → RunsAlone moves others s w t → others a ≡ true → moves.Waits t a → (f : F) × (u : S) × moves.Steps t a f u
    goes_on_by w t a alone is waits =
        let (alone', last) = narrow w t alone in
        stands.goes_on w t a alone' (last a is waits) waits

    whole_by : (w : List (L × F)) (t : S) → RunsAlone moves others s w t → ((a : L) → others a ≡ true → moves.Waits t a → ⊥) → HasWayTo moves others s found.ways t (printed_by_steps moves.prints w)
    whole_by w t alone over =
        let (y, u, there, (run, of, none), near, prints) = stands.whole w t (narrow w t alone).0 (λ a is waits. over a (more a is) waits) in
        (y, u, there, (run, among_more among others more y of, none), near, prints)

    pub larger : StandsFor moves Within others s found
    larger =
        record {
          within = λ w t u a f alone is step. stands.within w t u a f (narrow w t alone).0 (actor_own w t u a f alone is step) step;
          kept = λ w t u a b f alone is step gives. more b (stands.kept w t u a b f (narrow w t alone).0 (actor_own w t u a f alone is step) step gives);
          goes_on = goes_on_by;
          whole = whole_by;
          ended = λ w t u a f alone is step ends. stands.ended w t u a f (narrow w t alone).0 (actor_own w t u a f alone is step) step ends;
        }

pub larger_sets : {S L F Y : Type 0} (moves : Moves S L F) (Within : F → Y → Type 0) → LargerSets moves Within
larger_sets {S} {L} {F} {Y} moves Within among others s found laws more own stands = larger S L F Y moves Within laws among others s found more stands own

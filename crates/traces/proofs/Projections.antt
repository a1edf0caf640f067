-- What one part does in a run is a run by itself, and a whole one where the run is.
use Rattle.std.proofs.Common.{◌≡◌, ◌≢◌, ◌↔◌, ℕ, List, [], ◌∷◌, inl, inr, refl, sym, subst}
use Rattle.traces.specs.Traces.{Moves, AreMoves, IsRunOfMoves, NoneEnds, of_part, ArePartsApart}
use Rattle.traces.specs.TraceLaws.{Projected, WholeWays}
use Rattle.traces.proofs.PartLists.{same_or_other, own_first, other_first, own_steps, none_of_part}
use Rattle.traces.proofs.Squares.{Beside, unlike, has_waited, passed_back}
use Rattle.traces.proofs.PartsKept.{beside_of, parts_kept}

pub both_sides : {A B C : Type 0} → A ↔ B → B ↔ C → A ↔ C
both_sides p q = (λ a. q.0 (p.0 a), λ c. p.1 (q.1 c))

module _ (S L F : Type 0) (moves : Moves S L F) (laws : AreMoves moves) where
  pub waits_both : (s t : S) (a : L) → moves.Alike s t → moves.Waits s a ↔ moves.Waits t a
  waits_both s t a near = (laws.waits_alike s t a near, laws.waits_alike t s a (laws.back s t near))

  module _ (part : L → ℕ) where
    -- a part as it is in what follows the first step of a run, and in the whole run
    abbrev Projection : S → S → List (L × F) → ℕ → Type 0
    Projection s t w k = (u : S) × IsRunOfMoves moves s (of_part part k w) u × ((a : L) → part a ≡ k → moves.Waits u a ↔ moves.Waits t a)

    own_more : (s m t : S) (x : L × F) (w : List (L × F)) (k : ℕ) → moves.Steps s x.0 x.1 m → part x.0 ≡ k → Projection m t w k → Projection s t (x ∷ w) k
    own_more s m t x w k step own (u, run, waits) =
        (u, subst (λ v. IsRunOfMoves moves s v u) (sym (own_first L F part k x w own)) (m, step, run), waits)

    other_more : (s m t : S) (x : L × F) (w : List (L × F)) (k : ℕ) → Beside moves part s x.1 k → moves.Steps s x.0 x.1 m → part x.0 ≢ k → (moves.Ends x.1 → ⊥) → NoneEnds moves.Ends w → Projection m t w k → Projection s t (x ∷ w) k
    other_more s m t x w k beside step other free none (u, run, waits) =
        let (r, run', still) = passed_back S L F moves laws part k x.0 x.1 other free s m u (of_part part k w) beside step run (own_steps L F part k w) in
        let (v, over, near) = still (none_of_part S L F moves part k w none) in (
          r,
          subst (λ z. IsRunOfMoves moves s z r) (sym (other_first L F part k x w other)) run',
          λ a own.
              let on : moves.Waits r a → moves.Waits v a = laws.stays r v x.0 a x.1 over (unlike S L F moves laws part k x.0 x.1 other free a own) in
              let off : moves.Waits v a → moves.Waits r a = has_waited S L F moves laws part k x.0 x.1 other free r v a beside.kept own over in
              both_sides (on, off) (both_sides (waits_both v u a near) (waits a own)),
        )

    projection : (s t : S) (w : List (L × F)) (k : ℕ) → ArePartsApart moves part s → IsRunOfMoves moves s w t → NoneEnds moves.Ends w → Projection s t w k
    projection s t [] k parts is none = (s, refl, λ a own. subst (λ z. moves.Waits s a ↔ moves.Waits z a) is (λ h. h, λ h. h))
    projection s t (x ∷ w) k parts (m, step, later) (free, none) =
        let rest : Projection m t w k = projection m t w k (parts_kept S L F moves laws part s m x.0 x.1 parts step free) later none in
        elim (same_or_other (part x.0) k) [
          | inl own ↦ own_more s m t x w k step own rest
          | inr other ↦ other_more s m t x w k (beside_of S L F moves part s m x.0 x.1 k parts step other) step other free none rest
        ]

    pub projects : (s t : S) (w : List (L × F)) (k : ℕ) → ArePartsApart moves part s → IsRunOfMoves moves s w t → NoneEnds moves.Ends w
        → (u : S) × IsRunOfMoves moves s (of_part part k w) u × ((a : L) → part a ≡ k → moves.Waits u a ↔ moves.Waits t a)
    projects = projection

pub projected : {S L F : Type 0} (moves : Moves S L F) → Projected moves
projected {S} {L} {F} moves part s t w k laws parts run none = projects S L F moves laws part s t w k parts run none

pub whole_ways : {S L F : Type 0} (moves : Moves S L F) → WholeWays moves
whole_ways {S} {L} {F} moves part s t w k laws parts run none over =
    let (u, way, waits) = projects S L F moves laws part s t w k parts run none in
    (u, way, λ a own still. over a ((waits a own).0 still))

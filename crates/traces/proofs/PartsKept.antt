-- Parts stay parts after each step that doesn't end the run.
use Rattle.std.proofs.Common.{◌≢◌, ℕ, List, [], ◌∷◌, ◌++◌, inl, inr, refl, sym, ◌∙◌, subst}
use Rattle.traces.specs.Traces.{Moves, AreMoves, IsRunOfMoves, NoneEnds, AreOfPart, PartDoes, PartGoesOn, ArePartsApart}
use Rattle.traces.proofs.PartLists.{same_or_other, own_both}
use Rattle.traces.proofs.RunLaws.{runs_both, runs_split}
use Rattle.traces.proofs.Squares.{Beside, at_once, does_after, goes_on_after, unlike, has_waited, passed_back}

module _ (S L F : Type 0) (moves : Moves S L F) (part : L → ℕ) where
  -- a step of one part, and what another part does
  pub beside_of : (s m : S) (l : L) (f : F) (k : ℕ) → ArePartsApart moves part s → moves.Steps s l f m → part l ≢ k → Beside moves part s f k
  beside_of s m l f k parts step other =
      let first : PartDoes moves part s (part l) l f = at_once S L F moves part (part l) s m l f refl step in
      record {
        apart = λ b g d. parts.apart (part l) k l b f g other first d;
        kept = λ b gives own. other (sym (parts.kept (part l) l b f first gives) ∙ own);
        goes_on = parts.goes_on k;
      }

module _ (S L F : Type 0) (moves : Moves S L F) (laws : AreMoves moves) (part : L → ℕ) where
  other_before : (s m : S) (l b : L) (f g : F) (k : ℕ) → Beside moves part s f k → moves.Steps s l f m → part l ≢ k → (moves.Ends f → ⊥) → PartDoes moves part m k b g → PartDoes moves part s k b g
  other_before s m l b f g k beside step other free d =
      let all : IsRunOfMoves moves m (d.before ++ ((b, g) ∷ [])) d.after =
      runs_both S L F moves m d.there d.after d.before ((b, g) ∷ []) d.way (d.after, d.steps, refl) in
      let own : AreOfPart part k (d.before ++ ((b, g) ∷ [])) = own_both L F part k d.before ((b, g) ∷ []) d.own (d.belongs, tt) in
      let (u, run, still) = passed_back S L F moves laws part k l f other free s m d.after (d.before ++ ((b, g) ∷ [])) beside step all own in
      let (t, way, (v, last, is)) = runs_split S L F moves s u d.before ((b, g) ∷ []) run in
      record {
        before = d.before;
        there = t;
        after = v;
        way = way;
        own = d.own;
        belongs = d.belongs;
        steps = last;
      }

  -- what a part does after a step, it does before it
  pub does_before : (s m : S) (l b : L) (f g : F) (k : ℕ) → ArePartsApart moves part s → moves.Steps s l f m → (moves.Ends f → ⊥) → PartDoes moves part m k b g → PartDoes moves part s k b g
  does_before s m l b f g k parts step free d =
      elim (same_or_other (part l) k) [
        | inl own ↦ does_after S L F moves part k s m l b f g step own d
        | inr other ↦ other_before s m l b f g k (beside_of S L F moves part s m l f k parts step other) step other free d
      ]

  other_goes_on : (s m : S) (l : L) (f : F) (k : ℕ) → Beside moves part s f k → moves.Steps s l f m → part l ≢ k → (moves.Ends f → ⊥) → PartGoesOn moves part m k
  other_goes_on s m l f k beside step other free w t c run of none own waits =
      let (u, run', still) = passed_back S L F moves laws part k l f other free s m t w beside step run of in
      let (v, over, near) = still none in
      let later : moves.Waits v c = laws.waits_alike t v c (laws.back v t near) waits in
      let before : moves.Waits u c = has_waited S L F moves laws part k l f other free u v c beside.kept own over later in
      let (g, r, there) = beside.goes_on w u c run' of none own before in
      let does : PartDoes moves part s k c g =
      record { before = w; there = u; after = r; way = run'; own = of; belongs = own; steps = there } in
      let differ : l ≢ c = unlike S L F moves laws part k l f other free c own in
      let (v', next) = laws.frame u v r l c f g differ over there (beside.apart c g does) free in
      let (t', next', near') = laws.steps_alike v t v' c g near next in
      (g, t', next')

  goes_on_before : (s m : S) (l : L) (f : F) (k : ℕ) → ArePartsApart moves part s → moves.Steps s l f m → (moves.Ends f → ⊥) → PartGoesOn moves part m k
  goes_on_before s m l f k parts step free =
      elim (same_or_other (part l) k) [
        | inl own ↦ goes_on_after S L F moves part k s m l f step own free (parts.goes_on k)
        | inr other ↦ other_goes_on s m l f k (beside_of S L F moves part s m l f k parts step other) step other free
      ]

  pub parts_kept : (s m : S) (l : L) (f : F) → ArePartsApart moves part s → moves.Steps s l f m → (moves.Ends f → ⊥) → ArePartsApart moves part m
  parts_kept s m l f parts step free =
      record {
        apart = λ i j a b g h differ d e. parts.apart i j a b g h differ (does_before s m l a f g i parts step free d) (does_before s m l b f h j parts step free e);
        kept = λ i a b g d gives. parts.kept i a b g (does_before s m l a f g i parts step free d) gives;
        goes_on = λ i. goes_on_before s m l f i parts step free;
      }

  pub parts_after : (s t : S) (w : List (L × F)) → ArePartsApart moves part s → IsRunOfMoves moves s w t → NoneEnds moves.Ends w → ArePartsApart moves part t
  parts_after s t [] parts is none = subst (λ z. ArePartsApart moves part z) is parts
  parts_after s t (x ∷ w) parts (m, step, later) (free, none) = parts_after m t w (parts_kept s m x.0 x.1 parts step free) later none

  -- what a part does after a run, it does before it
  pub does_from : (s t : S) (w : List (L × F)) (k : ℕ) (b : L) (g : F) → ArePartsApart moves part s → IsRunOfMoves moves s w t → NoneEnds moves.Ends w → PartDoes moves part t k b g → PartDoes moves part s k b g
  does_from s t [] k b g parts is none d = subst (λ z. PartDoes moves part z k b g) (sym is) d
  does_from s t (x ∷ w) k b g parts (m, step, later) (free, none) d =
      does_before s m x.0 b x.1 g k parts step free (does_from m t w k b g (parts_kept s m x.0 x.1 parts step free) later none d)

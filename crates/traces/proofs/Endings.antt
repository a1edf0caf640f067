-- What the part that ends a run does in it.
use Rattle.std.proofs.Common.{◌≡◌, ◌≢◌, ℕ, List, [], ◌∷◌, ◌++◌, inl, inr, refl, sym, ap, ◌∙◌, subst}
use Rattle.traces.specs.Traces.{Moves, AreMoves, IsRunOfMoves, printed_by_steps, AreOfPart, of_part, PartDoes, ArePartsApart}
use Rattle.traces.specs.TraceLaws.{EndingWays}
use Rattle.traces.proofs.PartLists.{same_or_other, own_first, other_first, own_steps, own_both}
use Rattle.traces.proofs.RunLaws.{runs_split, followed_by}
use Rattle.traces.proofs.Squares.{at_once, passed_back}
use Rattle.traces.proofs.PartsKept.{beside_of, parts_kept}

module _ (S L F : Type 0) (moves : Moves S L F) (laws : AreMoves moves) (part : L → ℕ) (a : L) (f : F) (ends : moves.Ends f) where
  -- what the actor's part does in a run that ends with his step
  abbrev way : List (L × F) → List (L × F)
  way w = of_part part (part a) w ++ ((a, f) ∷ [])

  abbrev Ending : S → List (L × F) → Type 0
  Ending s w = (u : S) × IsRunOfMoves moves s (way w) u × (printed_by_steps moves.prints (way w) ≡ printed_by_steps moves.prints (w ++ ((a, f) ∷ [])))

  own_more : (s m : S) (x : L × F) (w : List (L × F)) → moves.Steps s x.0 x.1 m → part x.0 ≡ part a → Ending m w → Ending s (x ∷ w)
  own_more s m x w step own (u, run, prints) =
      let is : way (x ∷ w) ≡ x ∷ way w = ap (λ z. z ++ ((a, f) ∷ [])) (own_first L F part (part a) x w own) in
      (u, subst (λ z. IsRunOfMoves moves s z u) (sym is) (m, step, run), ap (printed_by_steps moves.prints) is ∙ ap (λ z. moves.prints x.1 ++ z) prints)

  -- a step of another part prints nothing
  quiet : (s m u : S) (x : L × F) (w : List (L × F)) → ArePartsApart moves part s → moves.Steps s x.0 x.1 m → part x.0 ≢ part a → IsRunOfMoves moves s (way w) u → moves.prints x.1 ≡ []
  quiet s m u x w parts step other run =
      let (t, before, (v, last, is)) = runs_split S L F moves s u (of_part part (part a) w) ((a, f) ∷ []) run in
      let does : PartDoes moves part s (part a) a f =
      record { before = of_part part (part a) w; there = t; after = v; way = before; own = own_steps L F part (part a) w; belongs = refl; steps = last } in
      let first : PartDoes moves part s (part x.0) x.0 x.1 = at_once S L F moves part (part x.0) s m x.0 x.1 refl step in
      laws.silent f x.1 (parts.apart (part a) (part x.0) a x.0 f x.1 (λ same. other (sym same)) does first) ends

  other_more : (s m : S) (x : L × F) (w : List (L × F)) → ArePartsApart moves part s → moves.Steps s x.0 x.1 m → (moves.Ends x.1 → ⊥) → part x.0 ≢ part a → Ending m w → Ending s (x ∷ w)
  other_more s m x w parts step free other (u, run, prints) =
      let own : AreOfPart part (part a) (way w) = own_both L F part (part a) (of_part part (part a) w) ((a, f) ∷ []) (own_steps L F part (part a) w) (refl, tt) in
      let (r, run', still) = passed_back S L F moves laws part (part a) x.0 x.1 other free s m u (way w) (beside_of S L F moves part s m x.0 x.1 (part a) parts step other) step run own in
      let is : way (x ∷ w) ≡ way w = ap (λ z. z ++ ((a, f) ∷ [])) (other_first L F part (part a) x w other) in
      let nothing : moves.prints x.1 ≡ [] = quiet s m r x w parts step other run' in
      (r, subst (λ z. IsRunOfMoves moves s z r) (sym is) run', ap (printed_by_steps moves.prints) is ∙ prints ∙ ap (λ z. z ++ printed_by_steps moves.prints (w ++ ((a, f) ∷ []))) (sym nothing))

  ending : (s t : S) (w : List (L × F)) → ArePartsApart moves part s → IsRunOfMoves moves s (w ++ ((a, f) ∷ [])) t → Ending s w
  ending s t [] parts run = (t, run, refl)
  ending s t (x ∷ w) parts (m, step, later) =
      let (n, before, (v, last, is)) = runs_split S L F moves m t w ((a, f) ∷ []) later in
      let free : moves.Ends x.1 → ⊥ = followed_by S L F moves laws s m n v x.0 a x.1 f w step before last in
      let rest : Ending m w = ending m t w (parts_kept S L F moves laws part s m x.0 x.1 parts step free) later in
      elim (same_or_other (part x.0) (part a)) [
        | inl own ↦ own_more s m x w step own rest
        | inr other ↦ other_more s m x w parts step free other rest
      ]

  pub ending_way : (s t : S) (w : List (L × F)) → ArePartsApart moves part s → IsRunOfMoves moves s (w ++ ((a, f) ∷ [])) t
      → (u : S) × IsRunOfMoves moves s (of_part part (part a) w ++ ((a, f) ∷ [])) u
      × (printed_by_steps moves.prints (of_part part (part a) w ++ ((a, f) ∷ [])) ≡ printed_by_steps moves.prints (w ++ ((a, f) ∷ [])))
  ending_way = ending

pub ending_ways : {S L F : Type 0} (moves : Moves S L F) → EndingWays moves
ending_ways {S} {L} {F} moves part s t w a f laws parts run ends = ending_way S L F moves laws part a f ends s t w parts run

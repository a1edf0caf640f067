-- What the parts do in a run, one part after another.
use Rattle.std.proofs.Common.{◌≡◌, ◌≢◌, ℕ, List, [], ◌∷◌, ◌++◌, inl, inr, refl, sym, ap, ◌∙◌, subst, append_assoc}
use Rattle.traces.specs.Traces.{Moves, AreMoves, IsRunOfMoves, printed_by_steps, NoneEnds, of_part, in_order, IsNoneOf, IsOnceIn, AreOnceIn, ArePartsApart}
use Rattle.traces.specs.TraceLaws.{InAnyOrder}
use Rattle.traces.proofs.PartLists.{other_first, own_steps, none_of_part, printed_both, there_first, nothing_in_order}
use Rattle.traces.proofs.RunLaws.{runs_both, runs_split, alike_runs}
use Rattle.traces.proofs.Squares.{Beside, passed_back, printed_past}
use Rattle.traces.proofs.PartsKept.{beside_of, parts_kept, parts_after}

-- a run that leads to what is alike, and prints this
abbrev Leads : {S L F : Type 0} → Moves S L F → S → List (L × F) → S → List ℕ → Type 0
Leads {S} moves s w t p = (u : S) × IsRunOfMoves moves s w u × moves.Alike u t × (printed_by_steps moves.prints w ≡ p)

-- what is printed by a block, then by a step and what follows
past_block : (p y rest whole : List ℕ) → p ++ y ≡ y ++ p → whole ≡ p ++ rest → y ++ whole ≡ p ++ (y ++ rest)
past_block p y rest whole past is =
    ap (λ z. y ++ z) is ∙ sym (append_assoc y p rest) ∙ ap (λ z. z ++ rest) (sym past) ∙ append_assoc p y rest

module _ (S L F : Type 0) (moves : Moves S L F) (laws : AreMoves moves) (part : L → ℕ) where
  -- one step more, whose part is the first
  into_first : (s m t : S) (x : L × F) (w : List (L × F)) (k : ℕ) (ks : List ℕ) → moves.Steps s x.0 x.1 m → k ≡ part x.0 → IsNoneOf (part x.0) ks
      → IsRunOfMoves moves m (in_order part (k ∷ ks) w) t
      → Leads moves s (in_order part (k ∷ ks) (x ∷ w)) t (moves.prints x.1 ++ printed_by_steps moves.prints (in_order part (k ∷ ks) w))
  into_first s m t x w k ks step same none run =
      let is : in_order part (k ∷ ks) (x ∷ w) ≡ x ∷ in_order part (k ∷ ks) w = there_first L F part k ks x w same none in
      (t, subst (λ z. IsRunOfMoves moves s z t) (sym is) (m, step, run), laws.itself t, ap (printed_by_steps moves.prints) is)

  prints_past : (s u m : S) (x : L × F) (w : List (L × F)) (k : ℕ) (ks : List ℕ) (rest : List ℕ) → Beside moves part s x.1 k → IsRunOfMoves moves s (of_part part k w) u → part x.0 ≢ k
      → printed_by_steps moves.prints (in_order part ks (x ∷ w)) ≡ moves.prints x.1 ++ rest → printed_by_steps moves.prints (in_order part ks w) ≡ rest
      → printed_by_steps moves.prints (in_order part (k ∷ ks) (x ∷ w)) ≡ moves.prints x.1 ++ printed_by_steps moves.prints (in_order part (k ∷ ks) w)
  prints_past s u m x w k ks rest beside run other is is' =
      let past : moves.prints x.1 ++ printed_by_steps moves.prints (of_part part k w) ≡ printed_by_steps moves.prints (of_part part k w) ++ moves.prints x.1 =
      printed_past S L F moves laws part k x.1 s u (of_part part k w) beside.apart run (own_steps L F part k w) in
      ap (λ z. printed_by_steps moves.prints (z ++ in_order part ks (x ∷ w))) (other_first L F part k x w other)
      ∙ printed_both S L F moves (of_part part k w) (in_order part ks (x ∷ w))
      ∙ past_block (moves.prints x.1) (printed_by_steps moves.prints (of_part part k w)) (printed_by_steps moves.prints (in_order part ks w)) (printed_by_steps moves.prints (in_order part ks (x ∷ w))) past (is ∙ ap (λ z. moves.prints x.1 ++ z) (sym is'))
      ∙ ap (λ z. moves.prints x.1 ++ z) (sym (printed_both S L F moves (of_part part k w) (in_order part ks w)))

  -- one step more
  into_order : (s m t : S) (x : L × F) (w : List (L × F)) (ks : List ℕ) → ArePartsApart moves part s → moves.Steps s x.0 x.1 m → (moves.Ends x.1 → ⊥) → NoneEnds moves.Ends w → IsOnceIn (part x.0) ks
      → IsRunOfMoves moves m (in_order part ks w) t → Leads moves s (in_order part ks (x ∷ w)) t (moves.prints x.1 ++ printed_by_steps moves.prints (in_order part ks w))
  into_order s m t x w [] parts step free none once run = absurd once
  into_order s m t x w (k ∷ ks) parts step free none (inl (same, alone)) run = into_first s m t x w k ks step same alone run
  into_order s m t x w (k ∷ ks) parts step free none (inr (differ, once)) run =
      let other : part x.0 ≢ k = λ same. differ (sym same) in
      let beside : Beside moves part s x.1 k = beside_of S L F moves part s m x.0 x.1 k parts step other in
      let quiet : NoneEnds moves.Ends (of_part part k w) = none_of_part S L F moves part k w none in
      let (n, first, second) = runs_split S L F moves m t (of_part part k w) (in_order part ks w) run in
      let (r, first', still) = passed_back S L F moves laws part k x.0 x.1 other free s m n (of_part part k w) beside step first (own_steps L F part k w) in
      let (v, over, near) = still quiet in
      let (t', second', near') = alike_runs S L F moves laws n v t (in_order part ks w) (laws.back v n near) second in
      let parts' : ArePartsApart moves part r = parts_after S L F moves laws part s r (of_part part k w) parts first' quiet in
      let (u, rest, alike, prints) = into_order r v t' x w ks parts' over free none once second' in
      let all : IsRunOfMoves moves s (of_part part k w ++ in_order part ks (x ∷ w)) u = runs_both S L F moves s r u (of_part part k w) (in_order part ks (x ∷ w)) first' rest in (
        u,
        subst (λ z. IsRunOfMoves moves s (z ++ in_order part ks (x ∷ w)) u) (sym (other_first L F part k x w other)) all,
        laws.through u t' t alike (laws.back t t' near'),
        prints_past s r m x w k ks (printed_by_steps moves.prints (in_order part ks w)) beside first' other prints refl,
      )

  ordered : (s t : S) (w : List (L × F)) (ks : List ℕ) → ArePartsApart moves part s → IsRunOfMoves moves s w t → NoneEnds moves.Ends w → AreOnceIn part ks w → Leads moves s (in_order part ks w) t (printed_by_steps moves.prints w)
  ordered s t [] ks parts is none once =
      let nothing : in_order {L = L} {F = F} part ks [] ≡ [] = nothing_in_order L F part ks in
      (s, subst (λ z. IsRunOfMoves moves s z s) (sym nothing) refl, subst (λ z. moves.Alike s z) is (laws.itself s), ap (printed_by_steps moves.prints) nothing)
  ordered s t (x ∷ w) ks parts (m, step, later) (free, none) (once, more) =
      let (u, run, near, prints) = ordered m t w ks (parts_kept S L F moves laws part s m x.0 x.1 parts step free) later none more in
      let (u', run', near', prints') = into_order s m u x w ks parts step free none once run in
      (u', run', laws.through u' u t near' near, prints' ∙ ap (λ z. moves.prints x.1 ++ z) prints)

  pub in_any : (s t : S) (w : List (L × F)) (ks : List ℕ) → ArePartsApart moves part s → IsRunOfMoves moves s w t → NoneEnds moves.Ends w → AreOnceIn part ks w
      → (u : S) × IsRunOfMoves moves s (in_order part ks w) u × moves.Alike u t × (printed_by_steps moves.prints (in_order part ks w) ≡ printed_by_steps moves.prints w)
  in_any = ordered

pub in_any_order : {S L F : Type 0} (moves : Moves S L F) → InAnyOrder moves
in_any_order {S} {L} {F} moves part s t w ks laws parts run none once = in_any S L F moves laws part s t w ks parts run none once

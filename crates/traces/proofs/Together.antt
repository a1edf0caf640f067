-- Ways of different parts, one after another.
use Rattle.std.proofs.Common.{◌≡◌, ◌≢◌, ◌↔◌, ℕ, List, [], ◌∷◌, inl, inr, refl, sym, ap, ◌∙◌, subst}
use Rattle.traces.specs.Traces.{Moves, AreMoves, IsRunOfMoves, NoneEnds, AreOfPart, IsNoneOf, IsOneOf, PartDoes, ArePartsApart, IsWayOfPart, HaveWays, all_ways}
use Rattle.traces.specs.TraceLaws.{WaysTogether, WaysStandFor}
use Rattle.traces.proofs.RunLaws.{runs_both, runs_split, alike_runs, runs_once}
use Rattle.traces.proofs.Squares.{at_once, does_after, passed_on}
use Rattle.traces.proofs.PartsKept.{beside_of, parts_kept, parts_after}
use Rattle.traces.proofs.Projections.{both_sides, waits_both}

-- these steps give events to actors of one part alone
abbrev pub Keeps : {S L F : Type 0} → Moves S L F → (L → ℕ) → ℕ → List (L × F) → Type 0
Keeps moves part k [] = Unit {0}
Keeps {S} {L} {F} moves part k (x ∷ w) = ((b : L) → moves.Gives x.1 b → part b ≡ k) × Keeps moves part k w

-- one that is none of some numbers isn't one of them
pub not_both : (k i : ℕ) (ks : List ℕ) → IsNoneOf k ks → IsOneOf i ks → k ≢ i
not_both k i [] none one same = absurd one
not_both k i (j ∷ ks) (differ, none) (inl is) same = differ (is ∙ sym same)
not_both k i (j ∷ ks) (differ, none) (inr one) same = not_both k i ks none one same

module _ (S L F : Type 0) (moves : Moves S L F) (laws : AreMoves moves) (part : L → ℕ) where
  keeps_from : (k : ℕ) (s u : S) (w : List (L × F)) → ((a : L) (f : F) → PartDoes moves part s k a f → (b : L) → moves.Gives f b → part b ≡ k) → IsRunOfMoves moves s w u → AreOfPart part k w → Keeps moves part k w
  keeps_from k s u [] kept run of = tt
  keeps_from k s u (x ∷ w) kept (m, step, later) (own, of) =
      (kept x.0 x.1 (at_once S L F moves part k s m x.0 x.1 own step), keeps_from k m u w (λ a f d. kept a f (does_after S L F moves part k s m x.0 a x.1 f step own d)) later of)

  keeps : (k : ℕ) (s u : S) (w : List (L × F)) → ArePartsApart moves part s → IsRunOfMoves moves s w u → AreOfPart part k w → Keeps moves part k w
  keeps k s u w parts run of = keeps_from k s u w (λ a f d b gives. parts.kept k a b f d gives) run of

  -- steps of other parts neither take nor give an event
  waits_past : (k : ℕ) (s u : S) (w : List (L × F)) (a : L) → Keeps moves part k w → IsRunOfMoves moves s w u → AreOfPart part k w → part a ≢ k → moves.Waits s a ↔ moves.Waits u a
  waits_past k s u [] a kept is of other = subst (λ z. moves.Waits s a ↔ moves.Waits z a) is (λ h. h, λ h. h)
  waits_past k s u (x ∷ w) a (gives, kept) (m, step, later) (own, of) other =
      let unlike : x.0 ≢ a = λ same. other (sym (ap part same) ∙ own) in
      let on : moves.Waits s a → moves.Waits m a = laws.stays s m x.0 a x.1 step unlike in
      let off : moves.Waits m a → moves.Waits s a = λ waits.
      elim (laws.given s m x.0 a x.1 step waits) [
        | inl before ↦ before
        | inr given ↦ absurd (other (gives a given))
      ] in
      both_sides (on, off) (waits_past k m u w a kept later of other)

  -- Runs of two parts, each after the other: both ways lead to states that are alike.
  exchanged : (s u a : S) (x y : List (L × F)) (i k : ℕ) → i ≢ k → ArePartsApart moves part s → IsRunOfMoves moves s x u → AreOfPart part i x → NoneEnds moves.Ends x → IsRunOfMoves moves s y a → AreOfPart part k y → NoneEnds moves.Ends y
      → (b : S) × (c : S) × IsRunOfMoves moves u y b × IsRunOfMoves moves a x c × moves.Alike c b
  exchanged s u a [] y i k differ parts is of none run of' none' =
      (a, a, subst (λ z. IsRunOfMoves moves z y a) is run, refl, laws.itself a)
  exchanged s u a (l ∷ x) y i k differ parts (m, step, later) (own, of) (free, none) run of' none' =
      let other : part l.0 ≢ k = λ same. differ (sym own ∙ same) in
      let (t, run', still) = passed_on S L F moves laws part k l.0 l.1 other free s m a y (beside_of S L F moves part s m l.0 l.1 k parts step other) step run of' in
      let (v, over, near) = still none' in
      let (b, c, run'', rest, alike) = exchanged m u t x y i k differ (parts_kept S L F moves laws part s m l.0 l.1 parts step free) later of none run' of' none' in
      let (d, rest', alike') = alike_runs S L F moves laws t v c x (laws.back v t near) rest in
      (b, d, run'', (v, over, rest'), laws.through d c b (laws.back c d alike') alike)

  -- ways of the other parts are ways after one part's
  ways_after : (s u : S) (x : List (L × F)) (k : ℕ) (ways : ℕ → List (L × F)) (ks : List ℕ) → ArePartsApart moves part s → IsRunOfMoves moves s x u → AreOfPart part k x → NoneEnds moves.Ends x → IsNoneOf k ks → HaveWays moves part s ways ks → HaveWays moves part u ways ks
  ways_after s u x k ways [] parts run of none alone have = tt
  ways_after s u x k ways (j ∷ ks) parts run of none (differ, alone) (alone', (a, run', of', none'), have) =
      let (b, c, after, rest, alike) = exchanged s u a x (ways j) k j (λ same. differ (sym same)) parts run of none run' of' none' in
      (alone', (b, after, of', none'), ways_after s u x k ways ks parts run of none alone have)

  -- ways are ways from a state that is alike
  ways_alike : (s t : S) (ways : ℕ → List (L × F)) (ks : List ℕ) → moves.Alike s t → HaveWays moves part s ways ks → HaveWays moves part t ways ks
  ways_alike s t ways [] near have = tt
  ways_alike s t ways (k ∷ ks) near (alone, (a, run, of, none), have) =
      let (b, run', near') = alike_runs S L F moves laws s t a (ways k) near run in
      (alone, (b, run', of, none), ways_alike s t ways ks near have)

  way_of : (s : S) (ways : ℕ → List (L × F)) (ks : List ℕ) (k : ℕ) → IsOneOf k ks → HaveWays moves part s ways ks → IsWayOfPart moves part s k (ways k)
  way_of s ways [] k one have = absurd one
  way_of s ways (j ∷ ks) k (inl is) (alone, way, have) = subst (λ z. IsWayOfPart moves part s z (ways z)) is way
  way_of s ways (j ∷ ks) k (inr one) (alone, way, have) = way_of s ways ks k one have

  -- who waits where ways of different parts lead, one after another
  abbrev Waiting : S → S → (ℕ → List (L × F)) → List ℕ → Type 0
  Waiting s t ways ks =
      ((a : L) (u : S) → IsOneOf (part a) ks → IsRunOfMoves moves s (ways (part a)) u → moves.Waits u a ↔ moves.Waits t a)
      × ((a : L) → IsNoneOf (part a) ks → moves.Waits s a ↔ moves.Waits t a)

  -- those of the first part
  first_waits : (s u t v : S) (ways : ℕ → List (L × F)) (k : ℕ) (ks : List ℕ) (a : L) → k ≡ part a → IsNoneOf k ks → IsRunOfMoves moves s (ways k) u → IsRunOfMoves moves s (ways (part a)) v → Waiting u t ways ks → moves.Waits v a ↔ moves.Waits t a
  first_waits s u t v ways k ks a is alone run run' waiting =
      let again : IsRunOfMoves moves s (ways k) v = subst (λ z. IsRunOfMoves moves s (ways z) v) (sym is) run' in
      both_sides (waits_both S L F moves laws v u a (runs_once S L F moves laws s v u (ways k) again run))
      (waiting.1 a (subst (λ z. IsNoneOf z ks) is alone))

  -- those of a later part
  later_waits : (s u t v : S) (ways : ℕ → List (L × F)) (k : ℕ) (ks : List ℕ) (a : L) → ArePartsApart moves part s → IsNoneOf k ks → IsOneOf (part a) ks → IsRunOfMoves moves s (ways k) u → AreOfPart part k (ways k) → NoneEnds moves.Ends (ways k) → HaveWays moves part s ways ks
      → IsRunOfMoves moves s (ways (part a)) v → Waiting u t ways ks → moves.Waits v a ↔ moves.Waits t a
  later_waits s u t v ways k ks a parts alone one run of none have run' waiting =
      let differ : k ≢ part a = not_both k (part a) ks alone one in
      let (v0, run0, of', none') = way_of s ways ks (part a) one have in
      let (b, c, after, rest, near) = exchanged s u v (ways k) (ways (part a)) k (part a) differ parts run of none run' of' none' in
      let past : moves.Waits v a ↔ moves.Waits c a =
      waits_past k v c (ways k) a (keeps k s u (ways k) parts run of) rest of (λ same. differ (sym same)) in
      both_sides past (both_sides (waits_both S L F moves laws c b a near) (waiting.0 a b one after))

  together : (s : S) (ways : ℕ → List (L × F)) (ks : List ℕ) → ArePartsApart moves part s → HaveWays moves part s ways ks → (t : S) × IsRunOfMoves moves s (all_ways ways ks) t × Waiting s t ways ks
  together s ways [] parts have = (s, refl, (λ a u one run. absurd one, λ a none. (λ h. h, λ h. h)))
  together s ways (k ∷ ks) parts (alone, (u, run, of, none), have) =
      let (t, rest, waiting) = together u ways ks (parts_after S L F moves laws part s u (ways k) parts run none) (ways_after s u (ways k) k ways ks parts run of none alone have) in (
        t,
        runs_both S L F moves s u t (ways k) (all_ways ways ks) run rest,
        (
          λ a v one run'.
              elim one [
                | inl is ↦ first_waits s u t v ways k ks a is alone run run' waiting
                | inr later ↦ later_waits s u t v ways k ks a parts alone later run of none have run' waiting
              ],
          λ a no.
              both_sides (waits_past k s u (ways k) a (keeps k s u (ways k) parts run of) run of (λ same. no.0 (sym same))) (waiting.1 a no.1),
        ),
      )

  pub all_together : (s : S) (ways : ℕ → List (L × F)) (ks : List ℕ) → ArePartsApart moves part s → HaveWays moves part s ways ks
      → (t : S) × IsRunOfMoves moves s (all_ways ways ks) t
      × ((a : L) (u : S) → IsOneOf (part a) ks → IsRunOfMoves moves s (ways (part a)) u → moves.Waits u a ↔ moves.Waits t a)
      × ((a : L) → IsNoneOf (part a) ks → moves.Waits s a ↔ moves.Waits t a)
  all_together s ways ks parts have =
      let (t, run, waiting) = together s ways ks parts have in
      (t, run, waiting.0, waiting.1)

  -- the ends of two ways of each part are alike
  abbrev AlikeEnds : S → (ℕ → List (L × F)) → (ℕ → List (L × F)) → List ℕ → Type 0
  AlikeEnds s ways others ks = (k : ℕ) (v w : S) → IsOneOf k ks → IsRunOfMoves moves s (ways k) v → IsRunOfMoves moves s (others k) w → moves.Alike v w

  -- the ends of later parts are so after the first part's way
  ends_after : (s u v w : S) (x y z : List (L × F)) (k j : ℕ) → k ≢ j → ArePartsApart moves part s → IsRunOfMoves moves s x u → AreOfPart part k x → NoneEnds moves.Ends x → IsWayOfPart moves part s j y → IsWayOfPart moves part s j z
      → ((a b : S) → IsRunOfMoves moves s y a → IsRunOfMoves moves s z b → moves.Alike a b) → IsRunOfMoves moves u y v → IsRunOfMoves moves u z w → moves.Alike v w
  ends_after s u v w x y z k j differ parts run of none (a, run_y, of_y, none_y) (b, run_z, of_z, none_z) alike at_v at_w =
      let (c, d, after, rest, near) = exchanged s u a x y k j differ parts run of none run_y of_y none_y in
      let (c', d', after', rest', near') = exchanged s u b x z k j differ parts run of none run_z of_z none_z in
      let (e, again, near'') = alike_runs S L F moves laws a b d x (alike a b run_y run_z) rest in
      let same : moves.Alike d d' = laws.through d e d' near'' (runs_once S L F moves laws b e d' x again rest') in
      let first : moves.Alike v d = laws.through v c d (runs_once S L F moves laws u v c y at_v after) (laws.back d c near) in
      let last : moves.Alike d' w = laws.through d' c' w near' (runs_once S L F moves laws u c' w z after' at_w) in
      laws.through v d w first (laws.through d d' w same last)

  pub stand_for : (s t u : S) (ways others : ℕ → List (L × F)) (ks : List ℕ) → ArePartsApart moves part s → HaveWays moves part s ways ks → HaveWays moves part s others ks
      → ((k : ℕ) (v w : S) → IsOneOf k ks → IsRunOfMoves moves s (ways k) v → IsRunOfMoves moves s (others k) w → moves.Alike v w)
      → IsRunOfMoves moves s (all_ways ways ks) t → IsRunOfMoves moves s (all_ways others ks) u → moves.Alike t u
  stand_for s t u ways others [] parts have have' ends run run' = runs_once S L F moves laws s t u [] run run'
  stand_for s t u ways others (k ∷ ks) parts (alone, (v, way, of, none), have) (alone', (w, way', of', none'), have') ends run run' =
      let (m, first, rest) = runs_split S L F moves s t (ways k) (all_ways ways ks) run in
      let (n, first', rest') = runs_split S L F moves s u (others k) (all_ways others ks) run' in
      let near : moves.Alike n m = laws.back m n (ends k m n (inl refl) first first') in
      let (u', rest'', near') = alike_runs S L F moves laws n m u (all_ways others ks) near rest' in
      let ways_m : HaveWays moves part m ways ks = ways_after s m (ways k) k ways ks parts first of none alone have in
      let others_m : HaveWays moves part m others ks = ways_after s m (ways k) k others ks parts first of none alone have' in
      let ends_m : AlikeEnds m ways others ks = λ j a b one at_a at_b.
      ends_after s m a b (ways k) (ways j) (others j) k j (not_both k j ks alone one) parts first of none (way_of s ways ks j one have) (way_of s others ks j one have') (λ c d. ends j c d (inr one)) at_a at_b in
      laws.through t u' u
      (stand_for m t u' ways others ks (parts_after S L F moves laws part s m (ways k) parts first none) ways_m others_m ends_m rest rest'')
      (laws.back u u' near')

pub ways_together : {S L F : Type 0} (moves : Moves S L F) → WaysTogether moves
ways_together {S} {L} {F} moves part s ways ks laws parts have = all_together S L F moves laws part s ways ks parts have

pub ways_stand_for : {S L F : Type 0} (moves : Moves S L F) → WaysStandFor moves
ways_stand_for {S} {L} {F} moves part s t u ways others ks laws parts have have' ends run run' = stand_for S L F moves laws part s t u ways others ks parts have have' ends run run'

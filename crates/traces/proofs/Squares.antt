-- One step, and a run of another part that is apart from it: each may be taken after the other.
use Rattle.std.proofs.Common.{◌≡◌, ◌≢◌, ℕ, List, [], ◌∷◌, ◌++◌, inl, inr, refl, sym, ap, ◌∙◌, subst, append_assoc, append-nil}
use Rattle.traces.specs.Traces.{Moves, AreMoves, IsRunOfMoves, printed_by_steps, NoneEnds, AreOfPart, PartDoes, PartGoesOn}
use Rattle.traces.proofs.RunLaws.{alike_runs, followed}

-- What a part does alone from a state, seen from a step that isn't its own.
pub record Beside {S L F : Type 0} (moves : Moves S L F) (part : L → ℕ) (s : S) (f : F) (k : ℕ) : Type 0 where
  -- all of it is apart from the step
  pub apart : (b : L) (g : F) → PartDoes moves part s k b g → moves.Apart f g
  -- the step gives no event to the part
  pub kept : (b : L) → moves.Gives f b → part b ≢ k
  -- no turn of the part is too long
  pub goes_on : PartGoesOn moves part s k

-- from a state an actor steps to one that is like this
abbrev pub StillSteps : {S L F : Type 0} → Moves S L F → L → F → S → S → Type 0
StillSteps {S} {L} {F} moves l f s n = (w : S) × moves.Steps s l f w × moves.Alike w n

module _ (S L F : Type 0) (moves : Moves S L F) (part : L → ℕ) (k : ℕ) where
  -- the first step of a part
  pub at_once : (s t : S) (b : L) (g : F) → part b ≡ k → moves.Steps s b g t → PartDoes moves part s k b g
  at_once s t b g own step =
      record { before = []; there = s; after = t; way = refl; own = tt; belongs = own; steps = step }

  -- what a part does after a step of its own, it does before it
  pub does_after : (s t : S) (c b : L) (h g : F) → moves.Steps s c h t → part c ≡ k → PartDoes moves part t k b g → PartDoes moves part s k b g
  does_after s t c b h g step own d =
      record {
        before = (c, h) ∷ d.before;
        there = d.there;
        after = d.after;
        way = (t, step, d.way);
        own = (own, d.own);
        belongs = d.belongs;
        steps = d.steps;
      }

  pub goes_on_after : (s t : S) (c : L) (h : F) → moves.Steps s c h t → part c ≡ k → (moves.Ends h → ⊥) → PartGoesOn moves part s k → PartGoesOn moves part t k
  goes_on_after s t c h step own free goes w u a run of none own' waits =
      goes ((c, h) ∷ w) u a (t, step, run) (own, of) (free, none) own' waits

  pub beside_after : (s t : S) (f : F) (c : L) (h : F) → Beside moves part s f k → moves.Steps s c h t → part c ≡ k → (moves.Ends h → ⊥) → Beside moves part t f k
  beside_after s t f c h beside step own free =
      record {
        apart = λ b g d. beside.apart b g (does_after s t c b h g step own d);
        kept = beside.kept;
        goes_on = goes_on_after s t c h step own free beside.goes_on;
      }

module _ (S L F : Type 0) (moves : Moves S L F) (laws : AreMoves moves) (part : L → ℕ) (k : ℕ) (l : L) (f : F) (other : part l ≢ k) (free : moves.Ends f → ⊥) where
  pub unlike : (c : L) → part c ≡ k → l ≢ c
  unlike c own same = other (ap part same ∙ own)

  -- who waits after a step that gives him nothing has waited before it
  pub has_waited : (s m : S) (c : L) → ((b : L) → moves.Gives f b → part b ≢ k) → part c ≡ k → moves.Steps s l f m → moves.Waits m c → moves.Waits s c
  has_waited s m c kept own step waits =
      elim (laws.given s m l c f step waits) [
        | inl before ↦ before
        | inr gives ↦ absurd (kept c gives own)
      ]

  -- a step of the part, after the other step
  pub forward : (s m n : S) (c : L) (g : F) → moves.Apart f g → moves.Steps s l f m → moves.Steps s c g n → part c ≡ k
      → (v : S) × moves.Steps m c g v × ((moves.Ends g → ⊥) → StillSteps moves l f n v)
  forward s m n c g apart step there own =
      let differ : l ≢ c = unlike c own in
      let (v, next) = laws.frame s m n l c f g differ step there apart free in (
        v,
        next,
        λ go.
            let (v', w, next', over, alike) = laws.exchange s m n l c f g differ step there apart free go in
            let (same, near) = laws.one_step m v v' c g g next next' in
            (w, over, laws.back v w (laws.through v v' w near alike)),
      )

  -- a step of the part after the other step, taken before it
  pub backward : (s m n : S) (c : L) (g : F) → Beside moves part s f k → moves.Steps s l f m → moves.Steps m c g n → part c ≡ k
      → (u : S) × moves.Steps s c g u × moves.Apart f g × ((moves.Ends g → ⊥) → StillSteps moves l f u n)
  backward s m n c g beside step next own =
      let waits : moves.Waits s c = has_waited s m c beside.kept own step (laws.waiting m n c g next) in
      let (h, u, there) = beside.goes_on [] s c refl tt tt own waits in
      let apart : moves.Apart f h = beside.apart c h (at_once S L F moves part k s u c h own there) in
      let (v, next', still) = forward s m u c h apart step there own in
      let (same, near) = laws.one_step m n v c g h next next' in
      subst (λ (z : F). (u : S) × moves.Steps s c z u × moves.Apart f z × ((moves.Ends z → ⊥) → StillSteps moves l f u n)) (sym same) (
        u,
        there,
        apart,
        λ go.
            let (w, over, alike) = still go in
            (w, over, laws.through w v n alike (laws.back n v near)),
      )

  -- A run of the part after the step is one before it, and the step may be taken after that.
  pub passed_back : (s m t : S) (y : List (L × F)) → Beside moves part s f k → moves.Steps s l f m → IsRunOfMoves moves m y t → AreOfPart part k y
      → (u : S) × IsRunOfMoves moves s y u × (NoneEnds moves.Ends y → StillSteps moves l f u t)
  passed_back s m t [] beside step is of = (s, refl, λ none. (m, step, subst (λ z. moves.Alike m z) is (laws.itself m)))
  passed_back s m t (x ∷ []) beside step (n, next, is) (own, of) =
      let (u, there, apart, still) = backward s m n x.0 x.1 beside step next own in (
        u,
        (u, there, refl),
        λ none.
            let (w, over, near) = still none.0 in
            (w, over, subst (λ z. moves.Alike w z) is near),
      )
  passed_back s m t (x ∷ z ∷ y) beside step (n, next, later) (own, of) =
      let go : moves.Ends x.1 → ⊥ = followed S L F moves laws m n t x.0 x.1 z y next later in
      let (v, there, apart, still) = backward s m n x.0 x.1 beside step next own in
      let (w, over, near) = still go in
      let (r, later', near') = alike_runs S L F moves laws n w t (z ∷ y) (laws.back w n near) later in
      let beside' : Beside moves part v f k = beside_after S L F moves part k s v f x.0 x.1 beside there own go in
      let (u, run, still') = passed_back v w r (z ∷ y) beside' over later' of in (
        u,
        (v, there, run),
        λ none.
            let (w', over', near'') = still' none.1 in
            (w', over', laws.through w' r t near'' (laws.back t r near')),
      )

  -- A run of the part before the step is one after it, and the step may be taken after that.
  pub passed_on : (s m u : S) (y : List (L × F)) → Beside moves part s f k → moves.Steps s l f m → IsRunOfMoves moves s y u → AreOfPart part k y
      → (t : S) × IsRunOfMoves moves m y t × (NoneEnds moves.Ends y → StillSteps moves l f u t)
  passed_on s m u [] beside step is of = (m, refl, λ none. (m, subst (λ z. moves.Steps z l f m) is step, laws.itself m))
  passed_on s m u (x ∷ []) beside step (n, there, is) (own, of) =
      let apart : moves.Apart f x.1 = beside.apart x.0 x.1 (at_once S L F moves part k s n x.0 x.1 own there) in
      let (v, next, still) = forward s m n x.0 x.1 apart step there own in (
        v,
        (v, next, refl),
        λ none.
            let (w, over, near) = still none.0 in
            (w, subst (λ z. moves.Steps z l f w) is over, near),
      )
  passed_on s m u (x ∷ z ∷ y) beside step (n, there, later) (own, of) =
      let go : moves.Ends x.1 → ⊥ = followed S L F moves laws s n u x.0 x.1 z y there later in
      let apart : moves.Apart f x.1 = beside.apart x.0 x.1 (at_once S L F moves part k s n x.0 x.1 own there) in
      let (v, next, still) = forward s m n x.0 x.1 apart step there own in
      let (w, over, near) = still go in
      let beside' : Beside moves part n f k = beside_after S L F moves part k s n f x.0 x.1 beside there own go in
      let (r, run, still') = passed_on n w u (z ∷ y) beside' over later of in
      let (t, run', near') = alike_runs S L F moves laws w v r (z ∷ y) near run in (
        t,
        (v, next, run'),
        λ none.
            let (w', over', near'') = still' none.1 in
            (w', over', laws.through w' r t near'' near'),
      )

module _ (S L F : Type 0) (moves : Moves S L F) (laws : AreMoves moves) (part : L → ℕ) (k : ℕ) (f : F) where
  -- what a run prints that is apart from a step
  pub printed_past : (s u : S) (y : List (L × F)) → ((b : L) (g : F) → PartDoes moves part s k b g → moves.Apart f g) → IsRunOfMoves moves s y u → AreOfPart part k y
      → moves.prints f ++ printed_by_steps moves.prints y ≡ printed_by_steps moves.prints y ++ moves.prints f
  printed_past s u [] apart run of = append-nil (moves.prints f)
  printed_past s u (x ∷ y) apart (n, there, later) (own, of) =
      let first : moves.Apart f x.1 = apart x.0 x.1 (at_once S L F moves part k s n x.0 x.1 own there) in
      let rest : moves.prints f ++ printed_by_steps moves.prints y ≡ printed_by_steps moves.prints y ++ moves.prints f =
      printed_past n u y (λ b g d. apart b g (does_after S L F moves part k s n x.0 b x.1 g there own d)) later of in
      sym (append_assoc (moves.prints f) (moves.prints x.1) (printed_by_steps moves.prints y))
      ∙ ap (λ z. z ++ printed_by_steps moves.prints y) (laws.either_way f x.1 first)
      ∙ append_assoc (moves.prints x.1) (moves.prints f) (printed_by_steps moves.prints y)
      ∙ ap (λ z. moves.prints x.1 ++ z) rest
      ∙ sym (append_assoc (moves.prints x.1) (printed_by_steps moves.prints y) (moves.prints f))

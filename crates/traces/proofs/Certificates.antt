-- A certificate stands for all runs from its start.
use Rattle.std.proofs.Common.{◌≡◌, ◌≢◌, ◌⊎◌, ℕ, List, [], ◌∷◌, ◌++◌, inl, inr, refl, sym, ap, ◌∙◌, subst, append_assoc, append-nil}
use Rattle.traces.specs.Traces.{Moves, AreMoves, IsRunOfMoves, printed_by_steps, NoneEnds}
use Rattle.traces.specs.Certificates.{HaveSwaps, EachComesOrIsApart, IsCertificate, EachGoesOn, CertificateStandsForAll, HoldsOf}

-- the first step of an actor is taken out of some steps, and none before it may give him an event
abbrev Takes : {S L F : Type 0} → Moves S L F → L → F → List (L × F) → List (L × F) → Type 0
Takes {S} {L} {F} moves b g [] v' = ⊥
Takes {S} {L} {F} moves b g (x ∷ v) v' =
    ((x.0 ≡ b) × (x.1 ≡ g) × (v ≡ v')) ⊎ ((y : List (L × F)) × (x.0 ≢ b) × (moves.Gives x.1 b → ⊥) × (v' ≡ x ∷ y) × Takes moves b g v y)

module _ (S L F : Type 0) (moves : Moves S L F) where
  -- what doesn't come of a step is apart from it
  apart_from : (f : F) (Comes : L → Type 0) (v y : List (L × F)) (b : L) (g : F) → Takes moves b g v y → (Comes b → ⊥) → EachComesOrIsApart moves f Comes v
      → moves.Apart f g × EachComesOrIsApart moves f Comes y
  apart_from f Comes [] y b g takes never each = absurd takes
  apart_from f Comes (x ∷ v) y b g (inl (is, is', same)) never (inl (comes, rest)) = absurd (never (subst Comes is comes))
  apart_from f Comes (x ∷ v) y b g (inl (is, is', same)) never (inr (apart, rest)) =
      (subst (λ z. moves.Apart f z) is' apart, subst (λ z. EachComesOrIsApart moves f Comes z) same rest)
  apart_from f Comes (x ∷ v) y b g (inr (r, differ, gives, same, takes)) never (inl (comes, rest)) =
      let (apart, more) = apart_from f (λ c. Comes c ⊎ moves.Gives x.1 c) v r b g takes (λ c. elim c [ inl own ↦ never own | inr given ↦ gives given ]) rest in
      (apart, subst (λ z. EachComesOrIsApart moves f Comes z) (sym same) (inl (comes, more)))
  apart_from f Comes (x ∷ v) y b g (inr (r, differ, gives, same, takes)) never (inr (first, rest)) =
      let (apart, more) = apart_from f Comes v r b g takes never rest in
      (apart, subst (λ z. EachComesOrIsApart moves f Comes z) (sym same) (inr (first, more)))

  -- what holds of all steps holds of the one taken, and of the others
  holds_of_taken : (Fact : F → Type 0) (v y : List (L × F)) (b : L) (g : F) → Takes moves b g v y → HoldsOf Fact v → Fact g × HoldsOf Fact y
  holds_of_taken Fact [] y b g takes holds = absurd takes
  holds_of_taken Fact (x ∷ v) y b g (inl (is, is', same)) (fact, holds) = (subst Fact is' fact, subst (λ z. HoldsOf Fact z) same holds)
  holds_of_taken Fact (x ∷ v) y b g (inr (r, differ, gives, same, takes)) (fact, holds) =
      let (taken, more) = holds_of_taken Fact v r b g takes holds in
      (taken, subst (λ z. HoldsOf Fact z) (sym same) (fact, more))

  pub runs_of : (s t : S) (v : List (L × F)) → IsCertificate moves s v t → IsRunOfMoves moves s v t
  runs_of s t [] is = is
  runs_of s t (x ∷ v) (m, step, free, gives, each, cert) = (m, step, runs_of m t v cert)

  pub free_of : (s t : S) (v : List (L × F)) → IsCertificate moves s v t → NoneEnds moves.Ends v
  free_of s t [] is = tt
  free_of s t (x ∷ v) (m, step, free, gives, each, cert) = (free, free_of m t v cert)

  free_holds : (w : List (L × F)) → HoldsOf (λ f. moves.Ends f → ⊥) w → NoneEnds moves.Ends w
  free_holds [] holds = tt
  free_holds (x ∷ w) (free, holds) = (free, free_holds w holds)

  pub holds_free : (w : List (L × F)) → NoneEnds moves.Ends w → HoldsOf (λ f. moves.Ends f → ⊥) w
  holds_free [] none = tt
  holds_free (x ∷ w) (free, none) = (free, holds_free w none)

-- what is printed, with a step taken out
taken_prints : (p q rest whole : List ℕ) → p ++ q ≡ q ++ p → whole ≡ q ++ rest → p ++ whole ≡ q ++ (p ++ rest)
taken_prints p q rest whole either is =
    ap (λ z. p ++ z) is ∙ sym (append_assoc p q rest) ∙ ap (λ z. z ++ rest) either ∙ append_assoc q p rest

module _ (S L F : Type 0) (moves : Moves S L F) (laws : AreMoves moves) where
  alike_certificate : (s r t : S) (v : List (L × F)) → moves.Alike s r → IsCertificate moves s v t → (u : S) × IsCertificate moves r v u × moves.Alike t u
  alike_certificate s r t [] near is = (r, refl, subst (λ z. moves.Alike z r) is near)
  alike_certificate s r t (x ∷ v) near (m, step, free, gives, each, cert) =
      let (n, step', near') = laws.steps_alike s r m x.0 x.1 near step in
      let (u, cert', near'') = alike_certificate m n t v near' cert in
      (u, (n, step', free, (λ b differ given waits. gives b differ given (laws.waits_alike r s b (laws.back s r near) waits)), each, cert'), near'')

  nobody_alike : (t u : S) → moves.Alike t u → ((a : L) → moves.Waits t a → ⊥) → (a : L) → moves.Waits u a → ⊥
  nobody_alike t u near over a waits = over a (laws.waits_alike u t a (laws.back t u near) waits)

  module _ (swaps : HaveSwaps moves) where
    -- a certificate once its first step of an actor is taken
    abbrev Residue : S → L → List (L × F) → S → Type 0
    Residue s b v t =
        (g : F) × (m : S) × (y : List (L × F)) × (r : S) × moves.Steps s b g m × (moves.Ends g → ⊥) × IsCertificate moves m y r × moves.Alike r t × Takes moves b g v y
        × (printed_by_steps moves.prints v ≡ moves.prints g ++ printed_by_steps moves.prints y)

    taken_later : (s m t : S) (x : L × F) (v : List (L × F)) (b : L) → moves.Steps s x.0 x.1 m → (moves.Ends x.1 → ⊥) → ((c : L) → c ≢ x.0 → moves.Gives x.1 c → moves.Waits s c → ⊥)
        → EachComesOrIsApart moves x.1 (λ c. (c ≡ x.0) ⊎ moves.Gives x.1 c) v → b ≢ x.0 → moves.Waits s b → Residue m b v t → Residue s b (x ∷ v) t
    taken_later s m t x v b step free gives each differ waits (g, n, y, r, next, free', cert, near, takes, prints) =
        let unlike : x.0 ≢ b = λ same. differ (sym same) in
        let never : moves.Gives x.1 b → ⊥ = λ given. gives b differ given waits in
        let (apart, each') = apart_from S L F moves x.1 (λ c. (c ≡ x.0) ⊎ moves.Gives x.1 c) v y b g takes (λ c. elim c [ inl is ↦ differ is | inr given ↦ never given ]) each in
        let (q, there) = swaps.before s m n x.0 b x.1 g unlike step next waits apart in
        let (n', w, next', over, near') = laws.exchange s m q x.0 b x.1 g unlike step there apart free free' in
        let (same, near'') = laws.one_step m n n' b g g next next' in
        let (r', cert', near_r) = alike_certificate n w r y (laws.through n n' w near'' near') cert in
        let gives' : (c : L) → c ≢ x.0 → moves.Gives x.1 c → moves.Waits q c → ⊥ = λ c other given waits'.
        elim (laws.given s q b c g there waits') [
          | inl before ↦ gives c other given before
          | inr given' ↦ swaps.gives_one x.1 g c apart given given'
        ] in (
          g,
          q,
          x ∷ y,
          r',
          there,
          free',
          (w, over, free, gives', each', cert'),
          laws.through r' r t (laws.back r r' near_r) near,
          inr (y, unlike, never, refl, takes),
          taken_prints (moves.prints x.1) (moves.prints g) (printed_by_steps moves.prints y) (printed_by_steps moves.prints v) (laws.either_way x.1 g apart) prints,
        )

    -- whoever waits may take his first step of a certificate first
    taken_first : (s t : S) (v : List (L × F)) (b : L) → IsCertificate moves s v t → ((a : L) → moves.Waits t a → ⊥) → moves.Waits s b → Residue s b v t
    taken_first s t [] b is over waits = absurd (over b (subst (λ z. moves.Waits z b) is waits))
    taken_first s t (x ∷ v) b (m, step, free, gives, each, cert) over waits =
        elim (swaps.decides b x.0) [
          | inl same ↦ (x.1, m, v, t, subst (λ z. moves.Steps s z x.1 m) (sym same) step, free, cert, laws.itself t, inl (sym same, refl, refl), refl)
          | inr differ ↦
              taken_later s m t x v b step free gives each differ waits
              (taken_first m t v b cert over (laws.stays s m x.0 b x.1 step (λ same. differ (sym same)) waits))
        ]

    -- what is left of a certificate after a run
    abbrev Left : List (L × F) → S → List (L × F) → S → Type 0
    Left w u v t =
        (rest : List (L × F)) × (r : S) × IsCertificate moves u rest r × moves.Alike r t × (printed_by_steps moves.prints w ++ printed_by_steps moves.prints rest ≡ printed_by_steps moves.prints v)

    left : (s t u : S) (v w : List (L × F)) → IsCertificate moves s v t → ((a : L) → moves.Waits t a → ⊥) → IsRunOfMoves moves s w u → Left w u v t
    left s t u v [] cert over is = (v, t, subst (λ z. IsCertificate moves z v t) is cert, laws.itself t, refl)
    left s t u v (x ∷ w) cert over (m, step, run) =
        let (g, n, y, r, step', free, cert', near, takes, prints) = taken_first s t v x.0 cert over (laws.waiting s m x.0 x.1 step) in
        let (same, near') = laws.one_step s m n x.0 x.1 g step step' in
        let (r', cert'', near'') = alike_certificate n m r y (laws.back m n near') cert' in
        let near_t : moves.Alike r' t = laws.through r' r t (laws.back r r' near'') near in
        let (rest, q, cert_q, near_q, prints') = left m r' u y w cert'' (nobody_alike t r' (laws.back r' t near_t) over) run in (
          rest,
          q,
          cert_q,
          laws.through q r' t near_q near_t,
          append_assoc (moves.prints x.1) (printed_by_steps moves.prints w) (printed_by_steps moves.prints rest)
              ∙ ap (λ z. moves.prints x.1 ++ z) prints'
              ∙ ap (λ z. moves.prints z ++ printed_by_steps moves.prints y) same
              ∙ sym prints,
        )

    -- what holds of a certificate's steps holds of each run's
    holds_along : (Fact : F → Type 0) (s t u : S) (v w : List (L × F)) → IsCertificate moves s v t → ((a : L) → moves.Waits t a → ⊥) → HoldsOf Fact v → IsRunOfMoves moves s w u → HoldsOf Fact w
    holds_along Fact s t u v [] cert over holds run = tt
    holds_along Fact s t u v (x ∷ w) cert over holds (m, step, run) =
        let (g, n, y, r, step', free, cert', near, takes, prints) = taken_first s t v x.0 cert over (laws.waiting s m x.0 x.1 step) in
        let (same, near') = laws.one_step s m n x.0 x.1 g step step' in
        let (r', cert'', near'') = alike_certificate n m r y (laws.back m n near') cert' in
        let near_t : moves.Alike r' t = laws.through r' r t (laws.back r r' near'') near in
        let (fact, more) = holds_of_taken S L F moves Fact v y x.0 g takes holds in
        (subst Fact (sym same) fact, holds_along Fact m r' u y w cert'' (nobody_alike t r' (laws.back r' t near_t) over) more run)

    pub free_along : (s t u : S) (v w : List (L × F)) → IsCertificate moves s v t → ((a : L) → moves.Waits t a → ⊥) → IsRunOfMoves moves s w u → NoneEnds moves.Ends w
    free_along s t u v w cert over run =
        free_holds S L F moves w (holds_along (λ f. moves.Ends f → ⊥) s t u v w cert over (holds_free S L F moves v (free_of S L F moves s t v cert)) run)

    pub fact_along : (Fact : F → Type 0) (s t u : S) (v w : List (L × F)) → IsCertificate moves s v t → ((a : L) → moves.Waits t a → ⊥) → HoldsOf Fact v → IsRunOfMoves moves s w u → HoldsOf Fact w
    fact_along = holds_along

    pub goes_on_from : (s t u : S) (v w : List (L × F)) → IsCertificate moves s v t → ((a : L) → moves.Waits t a → ⊥) → IsRunOfMoves moves s w u
        → (rest : List (L × F)) × (r : S) × IsRunOfMoves moves u rest r × moves.Alike r t × NoneEnds moves.Ends w × NoneEnds moves.Ends rest
        × (printed_by_steps moves.prints w ++ printed_by_steps moves.prints rest ≡ printed_by_steps moves.prints v)
    goes_on_from s t u v w cert over run =
        let (rest, r, cert', near, prints) = left s t u v w cert over run in
        (rest, r, runs_of S L F moves u r rest cert', near, free_along s t u v w cert over run, free_of S L F moves u r rest cert', prints)

    none_left : (u r t : S) (p q : List ℕ) (rest : List (L × F)) → IsRunOfMoves moves u rest r → moves.Alike r t → p ++ printed_by_steps moves.prints rest ≡ q → ((a : L) → moves.Waits u a → ⊥) → moves.Alike u t × (p ≡ q)
    none_left u r t p q [] is near prints over = (subst (λ z. moves.Alike z t) (sym is) near, sym (append-nil p) ∙ prints)
    none_left u r t p q (x ∷ rest) (m, step, run) near prints over = absurd (over x.0 (laws.waiting u m x.0 x.1 step))

    pub all_alike : (s t u : S) (v w : List (L × F)) → IsCertificate moves s v t → ((a : L) → moves.Waits t a → ⊥) → IsRunOfMoves moves s w u → ((a : L) → moves.Waits u a → ⊥) → moves.Alike u t × (printed_by_steps moves.prints w ≡ printed_by_steps moves.prints v)
    all_alike s t u v w cert over run over' =
        let (rest, r, run', near, free, free', prints) = goes_on_from s t u v w cert over run in
        none_left u r t (printed_by_steps moves.prints w) (printed_by_steps moves.prints v) rest run' near prints over'

    -- whoever waits after a run steps
    pub steps_on : (s t u : S) (v w : List (L × F)) (a : L) → IsCertificate moves s v t → ((b : L) → moves.Waits t b → ⊥) → IsRunOfMoves moves s w u → moves.Waits u a → (f : F) × (n : S) × moves.Steps u a f n
    steps_on s t u v w a cert over run waits =
        let (rest, r, cert', near, prints) = left s t u v w cert over run in
        let (g, n, y, q, step, free, cert_y, near_q, takes, prints_y) = taken_first u r rest a cert' (nobody_alike t r (laws.back r t near) over) waits in
        (g, n, step)

pub each_goes_on : {S L F : Type 0} (moves : Moves S L F) → EachGoesOn moves
each_goes_on {S} {L} {F} moves s t u v w laws swaps cert over run = goes_on_from S L F moves laws swaps s t u v w cert over run

pub certificate_stands_for_all : {S L F : Type 0} (moves : Moves S L F) → CertificateStandsForAll moves
certificate_stands_for_all {S} {L} {F} moves s t u v w laws swaps cert over run over' = all_alike S L F moves laws swaps s t u v w cert over run over'

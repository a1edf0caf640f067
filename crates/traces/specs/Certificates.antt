-- Runs that stand for all runs from a state, which is told by their own steps.
use Rattle.std.specs.Prelude.{◌≡◌, ◌≢◌, ◌⊎◌, Bool, true, List, [], ◌∷◌, ◌++◌}
use Rattle.std.specs.List.{Contains}
use Rattle.traces.specs.Traces.{Moves, AreMoves, IsRunOfMoves, printed_by_steps, NoneEnds}
use Rattle.traces.specs.StandsFor.{FoundOfSet, StandsFor}
use Rattle.traces.specs.Restricted.{restricted}

-- What certificates ask of the single steps of a system besides.
pub record HaveSwaps {S L F : Type 0} (moves : Moves S L F) : Type 0 where
  -- two actors are one, or they differ
  pub decides : (a b : L) → (a ≡ b) ⊎ (a ≢ b)
  -- a step that is taken after one from which it is apart may be taken first, where its actor has waited
  pub before :
      (s m n : S) (a b : L) (f g : F) → a ≢ b → moves.Steps s a f m → moves.Steps m b g n → moves.Waits s b → moves.Apart f g
      → (v : S) × moves.Steps s b g v
  -- steps that are apart don't give events to one actor
  pub gives_one : (f g : F) (b : L) → moves.Apart f g → moves.Gives f b → moves.Gives g b → ⊥

-- Each of these steps comes of some step, or is apart from it. The steps of some actors come of it, and those of actors to whom a step that
-- comes of it may give events.
abbrev pub EachComesOrIsApart : {S L F : Type 0} → Moves S L F → F → (L → Type 0) → List (L × F) → Type 0
EachComesOrIsApart {S} {L} {F} moves f Comes [] = Unit {0}
EachComesOrIsApart {S} {L} {F} moves f Comes (x ∷ w) =
    (Comes x.0 × EachComesOrIsApart moves f (λ b. Comes b ⊎ moves.Gives x.1 b) w) ⊎ (moves.Apart f x.1 × EachComesOrIsApart moves f Comes w)

-- A certificate: a run of which each step gives events to nobody else who waits, doesn't end the run, and is apart from each later step that
-- doesn't come of it.
abbrev pub IsCertificate : {S L F : Type 0} → Moves S L F → S → List (L × F) → S → Type 0
IsCertificate {S} {L} {F} moves s [] t = s ≡ t
IsCertificate {S} {L} {F} moves s (x ∷ w) t =
    (m : S) × moves.Steps s x.0 x.1 m × (moves.Ends x.1 → ⊥) × ((b : L) → b ≢ x.0 → moves.Gives x.1 b → moves.Waits s b → ⊥)
    × EachComesOrIsApart moves x.1 (λ b. (b ≡ x.0) ⊎ moves.Gives x.1 b) w × IsCertificate moves m w t

-- Where nobody waits after a certificate, each run from its start goes on to a state that is alike, and prints the same by then. None ends.
abbrev pub EachGoesOn : {S L F : Type 0} → Moves S L F → Type 0
EachGoesOn {S} {L} {F} moves =
    (s t u : S) (v w : List (L × F)) → AreMoves moves → HaveSwaps moves → IsCertificate moves s v t → ((a : L) → moves.Waits t a → ⊥)
    → IsRunOfMoves moves s w u
    → (rest : List (L × F)) × (r : S) × IsRunOfMoves moves u rest r × moves.Alike r t × NoneEnds moves.Ends w × NoneEnds moves.Ends rest
    × (printed_by_steps moves.prints w ++ printed_by_steps moves.prints rest ≡ printed_by_steps moves.prints v)

-- where nobody waits after a run either, it has led to a state that is alike, and has printed the same
abbrev pub CertificateStandsForAll : {S L F : Type 0} → Moves S L F → Type 0
CertificateStandsForAll {S} {L} {F} moves =
    (s t u : S) (v w : List (L × F)) → AreMoves moves → HaveSwaps moves → IsCertificate moves s v t → ((a : L) → moves.Waits t a → ⊥)
    → IsRunOfMoves moves s w u → ((a : L) → moves.Waits u a → ⊥) → moves.Alike u t × (printed_by_steps moves.prints w ≡ printed_by_steps moves.prints v)

-- a fact holds of the footprints of these steps
abbrev pub HoldsOf : {L F : Type 0} → (F → Type 0) → List (L × F) → Type 0
HoldsOf Fact [] = Unit {0}
HoldsOf Fact (x ∷ w) = Fact x.1 × HoldsOf Fact w

-- A certificate of a set of actors, after which none of them waits, is all that has to be found.
abbrev pub CertificateStandsFor : {S L F Y : Type 0} → Moves S L F → (F → Y → Type 0) → Type 0
CertificateStandsFor {S} {L} {F} {Y} moves Within =
    (among : L → Bool) (s t : S) (v : List (L × F)) (found : FoundOfSet L F Y) → AreMoves moves → HaveSwaps moves
    → IsCertificate (restricted moves among) s v t → ((a : L) → among a ≡ true → moves.Waits t a → ⊥)
    → HoldsOf (λ f. Within f found.summary × ((b : L) → moves.Gives f b → among b ≡ true)) v → Contains found.ways v
    → StandsFor moves Within among s found

-- Systems of moves: actors that take steps, each with a footprint that tells with which steps of others it may be exchanged; and parts,
-- which are sets of actors whose steps may be exchanged with all steps of the other parts.
use Rattle.std.specs.Prelude.{◌≡◌, ◌≢◌, ◌⊎◌, ℕ, ◌==◌, List, [], ◌∷◌, ◌++◌, filter}

-- A system of moves: in a state, an actor takes a step, which has a footprint and leads to another state.
pub record Moves (State Actor Footprint : Type 0) : Type 1 where
  -- in a state, an actor takes a step with this footprint, which leads to that state
  pub Steps : State → Actor → Footprint → State → Type 0
  -- an event of the actor is there, so that he may step, unless his turn is too long or the run has ended
  pub Waits : State → Actor → Type 0
  -- from these two states runs go on alike
  pub Alike : State → State → Type 0
  -- steps with these footprints may be exchanged
  pub Apart : Footprint → Footprint → Type 0
  -- a step with this footprint may give that actor an event
  pub Gives : Footprint → Actor → Type 0
  -- a step with this footprint ends the run
  pub Ends : Footprint → Type 0
  -- what a step with this footprint prints
  pub prints : Footprint → List ℕ

-- What the single steps of a system keep to.
pub record AreMoves {S L F : Type 0} (moves : Moves S L F) : Type 0 where
  -- each state is like itself
  pub itself : (s : S) → moves.Alike s s
  -- likeness goes both ways
  pub back : (s t : S) → moves.Alike s t → moves.Alike t s
  -- likeness goes on through a third state
  pub through : (s t u : S) → moves.Alike s t → moves.Alike t u → moves.Alike s u
  -- what an actor does in a state, he does in one that is alike
  pub steps_alike : (s t u : S) (a : L) (f : F) → moves.Alike s t → moves.Steps s a f u → (v : S) × moves.Steps t a f v × moves.Alike u v
  -- who waits in a state waits in one that is alike
  pub waits_alike : (s t : S) (a : L) → moves.Alike s t → moves.Waits s a → moves.Waits t a
  -- an actor has one step in a state
  pub one_step : (s t u : S) (a : L) (f g : F) → moves.Steps s a f t → moves.Steps s a g u → (f ≡ g) × moves.Alike t u
  -- who steps has waited
  pub waiting : (s t : S) (a : L) (f : F) → moves.Steps s a f t → moves.Waits s a
  -- where two steps are apart, the second is taken as well after the first, unless that has ended the run
  pub frame :
      (s t u : S) (a b : L) (f g : F) → a ≢ b → moves.Steps s a f t → moves.Steps s b g u → moves.Apart f g → (moves.Ends f → ⊥)
      → (v : S) × moves.Steps t b g v
  -- where neither of them ends the run, both orders lead to states that are alike
  pub exchange :
      (s t u : S) (a b : L) (f g : F) → a ≢ b → moves.Steps s a f t → moves.Steps s b g u → moves.Apart f g → (moves.Ends f → ⊥)
      → (moves.Ends g → ⊥) → (v : S) × (w : S) × moves.Steps t b g v × moves.Steps u a f w × moves.Alike v w
  -- steps that are apart print the same in both orders
  pub either_way : (f g : F) → moves.Apart f g → moves.prints f ++ moves.prints g ≡ moves.prints g ++ moves.prints f
  -- where one of two steps that are apart ends the run, the other prints nothing
  pub silent : (f g : F) → moves.Apart f g → moves.Ends f → moves.prints g ≡ []
  -- nobody steps after the end
  pub last : (s t u : S) (a b : L) (f g : F) → moves.Steps s a f t → moves.Ends f → moves.Steps t b g u → ⊥
  -- who waits still waits after the step of another
  pub stays : (s t : S) (a b : L) (f : F) → moves.Steps s a f t → a ≢ b → moves.Waits s b → moves.Waits t b
  -- who waits after a step has waited before it, or the step may give him an event
  pub given : (s t : S) (a b : L) (f : F) → moves.Steps s a f t → moves.Waits t b → moves.Waits s b ⊎ moves.Gives f b

-- A run: these steps, each an actor and a footprint, lead from one state to another.
abbrev pub IsRunOfMoves : {S L F : Type 0} → Moves S L F → S → List (L × F) → S → Type 0
IsRunOfMoves {S} {L} {F} moves s [] t = s ≡ t
IsRunOfMoves {S} {L} {F} moves s (x ∷ w) t = (m : S) × moves.Steps s x.0 x.1 m × IsRunOfMoves moves m w t

-- what steps print, each of which prints something by its footprint
abbrev pub printed_by_steps : {L F : Type 0} → (F → List ℕ) → List (L × F) → List ℕ
printed_by_steps prints [] = []
printed_by_steps prints (x ∷ w) = prints x.1 ++ printed_by_steps prints w

-- none of these steps has a footprint that ends the run
abbrev pub NoneEnds : {L F : Type 0} → (F → Type 0) → List (L × F) → Type 0
NoneEnds Ends [] = Unit {0}
NoneEnds Ends (x ∷ w) = (Ends x.1 → ⊥) × NoneEnds Ends w

-- these steps are all of actors of a set
abbrev pub AreAmong : {L F : Type 0} → (L → Type 0) → List (L × F) → Type 0
AreAmong Has [] = Unit {0}
AreAmong Has (x ∷ w) = Has x.0 × AreAmong Has w

-- these steps are all of actors of one part
abbrev pub AreOfPart : {L F : Type 0} → (L → ℕ) → ℕ → List (L × F) → Type 0
AreOfPart part k w = AreAmong (λ a. part a ≡ k) w

-- the steps of one part among these
abbrev pub of_part : {L F : Type 0} → (L → ℕ) → ℕ → List (L × F) → List (L × F)
of_part {L} {F} part k w = filter (λ (x : L × F). part x.0 == k) w

-- the ways of some parts, one after another
abbrev pub all_ways : {L F : Type 0} → (ℕ → List (L × F)) → List ℕ → List (L × F)
all_ways ways [] = []
all_ways ways (k ∷ ks) = ways k ++ all_ways ways ks

-- the steps of one part among these, then those of the next part, and so on
abbrev pub in_order : {L F : Type 0} → (L → ℕ) → List ℕ → List (L × F) → List (L × F)
in_order part ks w = all_ways (λ k. of_part part k w) ks

-- a number is none of these
abbrev pub IsNoneOf : ℕ → List ℕ → Type 0
IsNoneOf k [] = Unit {0}
IsNoneOf k (i ∷ others) = (i ≢ k) × IsNoneOf k others

-- a number is one of these
abbrev pub IsOneOf : ℕ → List ℕ → Type 0
IsOneOf k [] = ⊥
IsOneOf k (i ∷ others) = (i ≡ k) ⊎ IsOneOf k others

-- a number stands among these once
abbrev pub IsOnceIn : ℕ → List ℕ → Type 0
IsOnceIn k [] = ⊥
IsOnceIn k (i ∷ others) = ((i ≡ k) × IsNoneOf k others) ⊎ ((i ≢ k) × IsOnceIn k others)

-- the part of each of these steps stands once among some parts
abbrev pub AreOnceIn : {L F : Type 0} → (L → ℕ) → List ℕ → List (L × F) → Type 0
AreOnceIn part ks [] = Unit {0}
AreOnceIn part ks (x ∷ w) = IsOnceIn (part x.0) ks × AreOnceIn part ks w

-- Alone from a state, a part comes to a step of this actor of its own, with this footprint.
pub record PartDoes {S L F : Type 0} (moves : Moves S L F) (part : L → ℕ) (s : S) (k : ℕ) (a : L) (f : F) : Type 0 where
  -- the steps of the part before it
  pub before : List (L × F)
  -- where it is taken
  pub there : S
  -- where it leads
  pub after : S
  pub way : IsRunOfMoves moves s before there
  pub own : AreOfPart part k before
  pub belongs : part a ≡ k
  pub steps : moves.Steps there a f after

-- whoever is of a part, and waits after a run of it alone that hasn't ended, steps there
abbrev pub PartGoesOn : {S L F : Type 0} → Moves S L F → (L → ℕ) → S → ℕ → Type 0
PartGoesOn {S} {L} {F} moves part s k =
    (w : List (L × F)) (t : S) (a : L) → IsRunOfMoves moves s w t → AreOfPart part k w → NoneEnds moves.Ends w → part a ≡ k → moves.Waits t a
    → (f : F) × (u : S) × moves.Steps t a f u

-- What each part does alone from a state is apart from what every other part does alone.
pub record ArePartsApart {S L F : Type 0} (moves : Moves S L F) (part : L → ℕ) (s : S) : Type 0 where
  -- each step of one is apart from each step of another
  pub apart :
      (i j : ℕ) (a b : L) (f g : F) → i ≢ j → PartDoes moves part s i a f → PartDoes moves part s j b g → moves.Apart f g
  -- each step gives events to actors of its own part alone
  pub kept : (i : ℕ) (a b : L) (f : F) → PartDoes moves part s i a f → moves.Gives f b → part b ≡ i
  -- no turn is too long
  pub goes_on : (i : ℕ) → PartGoesOn moves part s i

-- A way of a part: a run of it alone from a state that hasn't ended.
abbrev pub IsWayOfPart : {S L F : Type 0} → Moves S L F → (L → ℕ) → S → ℕ → List (L × F) → Type 0
IsWayOfPart {S} {L} {F} moves part s k w = (u : S) × IsRunOfMoves moves s w u × AreOfPart part k w × NoneEnds moves.Ends w

-- parts that are all different have ways
abbrev pub HaveWays : {S L F : Type 0} → Moves S L F → (L → ℕ) → S → (ℕ → List (L × F)) → List ℕ → Type 0
HaveWays moves part s ways [] = Unit {0}
HaveWays moves part s ways (k ∷ ks) = IsNoneOf k ks × IsWayOfPart moves part s k (ways k) × HaveWays moves part s ways ks

-- What stands for all that a set of actors does alone from a state, put together step by step and part by part.
use Rattle.std.specs.Prelude.{◌≡◌, ◌≢◌, ℕ, Bool, true, ◌&&◌, ◌==◌, List, [], ◌∷◌, ◌++◌}
use Rattle.std.specs.List.{Contains}
use Rattle.traces.specs.Traces.{Moves, AreMoves, IsRunOfMoves, printed_by_steps, NoneEnds, AreAmong, IsNoneOf, IsOneOf, all_ways}

-- a run of the actors of a set alone, told by a test, that hasn't ended
abbrev pub RunsAlone : {S L F : Type 0} → Moves S L F → (L → Bool) → S → List (L × F) → S → Type 0
RunsAlone {S} {L} {F} moves among s w t = IsRunOfMoves moves s w t × AreAmong (λ a. among a ≡ true) w × NoneEnds moves.Ends w

-- What stands for all that a set of actors does alone: ways to where none of them waits, what its runs print that end, and a summary of the
-- footprints of its steps.
pub record FoundOfSet (Actor Footprint Summary : Type 0) : Type 0 where
  pub ways : List (List (Actor × Footprint))
  pub texts : List (List ℕ)
  pub summary : Summary

-- one of these ways of a set of actors prints this text, and leads to what is like this state
abbrev pub HasWayTo : {S L F : Type 0} → Moves S L F → (L → Bool) → S → List (List (L × F)) → S → List ℕ → Type 0
HasWayTo {S} {L} {F} moves among s ways t text =
    (w : List (L × F)) × (u : S) × Contains ways w × RunsAlone moves among s w u × moves.Alike t u × (printed_by_steps moves.prints w ≡ text)

-- What was found stands for all that a set of actors does alone from a state. A relation says which footprints are within a summary.
pub record StandsFor {S L F Y : Type 0} (moves : Moves S L F) (Within : F → Y → Type 0) (among : L → Bool) (s : S) (found : FoundOfSet L F Y) : Type 0 where
  -- each of its steps is within the summary
  pub within :
      (w : List (L × F)) (t u : S) (a : L) (f : F) → RunsAlone moves among s w t → among a ≡ true → moves.Steps t a f u
      → Within f found.summary
  -- it gives events to nobody else
  pub kept :
      (w : List (L × F)) (t u : S) (a b : L) (f : F) → RunsAlone moves among s w t → among a ≡ true → moves.Steps t a f u → moves.Gives f b
      → among b ≡ true
  -- none of its turns is too long
  pub goes_on :
      (w : List (L × F)) (t : S) (a : L) → RunsAlone moves among s w t → among a ≡ true → moves.Waits t a
      → (f : F) × (u : S) × moves.Steps t a f u
  -- where it has come to where none of it waits, a way that was found prints the same, and leads to a state that is alike
  pub whole :
      (w : List (L × F)) (t : S) → RunsAlone moves among s w t → ((a : L) → among a ≡ true → moves.Waits t a → ⊥)
      → HasWayTo moves among s found.ways t (printed_by_steps moves.prints w)
  -- where one of its steps ends the run, the text was found
  pub ended :
      (w : List (L × F)) (t u : S) (a : L) (f : F) → RunsAlone moves among s w t → among a ≡ true → moves.Steps t a f u → moves.Ends f
      → Contains found.texts (printed_by_steps moves.prints w ++ moves.prints f)

-- what was found after a step is among what was found before it
abbrev pub IncludesFoundAfter : {S L F Y : Type 0} → Moves S L F → (F → Y → Type 0) → L → F → FoundOfSet L F Y → FoundOfSet L F Y → Type 0
IncludesFoundAfter {S} {L} {F} {Y} moves Within a f later found =
    record {
      summary : (h : F) → Within h later.summary → Within h found.summary;
      ways : (w : List (L × F)) → Contains later.ways w → Contains found.ways ((a, f) ∷ w);
      texts : (text : List ℕ) → Contains later.texts text → Contains found.texts (moves.prints f ++ text);
    }

-- An actor was followed: his step is within the summary and gives events to actors of the set alone; if it ends the run, its text was found,
-- and otherwise what was found after it.
abbrev pub IsActorFollowed : {S L F Y : Type 0} → Moves S L F → (F → Y → Type 0) → (L → Bool) → S → FoundOfSet L F Y → L → Type 0
IsActorFollowed {S} {L} {F} {Y} moves Within among s found a =
    (f : F) × (u : S) × moves.Steps s a f u × Within f found.summary × ((b : L) → moves.Gives f b → among b ≡ true)
    × (moves.Ends f → Contains found.texts (moves.prints f))
    × ((moves.Ends f → ⊥) → (later : FoundOfSet L F Y) × StandsFor moves Within among u later × IncludesFoundAfter moves Within a f later found)

-- Where each actor of a set that waits was followed, and the empty way was found if none waits, what was found stands for all.
abbrev pub StepsStandFor : {S L F Y : Type 0} → Moves S L F → (F → Y → Type 0) → Type 0
StepsStandFor {S} {L} {F} {Y} moves Within =
    (among : L → Bool) (s : S) (found : FoundOfSet L F Y) → AreMoves moves
    → ((a : L) → among a ≡ true → moves.Waits s a → IsActorFollowed moves Within among s found a)
    → (((a : L) → among a ≡ true → moves.Waits s a → ⊥) → Contains found.ways [])
    → StandsFor moves Within among s found

-- numbers are all different
abbrev pub AreDifferent : List ℕ → Type 0
AreDifferent [] = Unit {0}
AreDifferent (k ∷ ks) = IsNoneOf k ks × AreDifferent ks

-- the actors of a set that are of one part
abbrev pub of_both : {L : Type 0} → (L → Bool) → (L → ℕ) → ℕ → L → Bool
of_both among part k a = among a && (part a == k)

-- What was found of each part of a set is apart from what was found of the others, and all of it together was found of the set.
pub record AreCombined {S L F Y : Type 0} (moves : Moves S L F) (Within : F → Y → Type 0) (among : L → Bool) (part : L → ℕ) (s : S) (ks : List ℕ) (each : ℕ → FoundOfSet L F Y) (found : FoundOfSet L F Y) : Type 0 where
  pub different : AreDifferent ks
  -- whoever is of the set and waits is of one of the parts
  pub all : (a : L) → among a ≡ true → moves.Waits s a → IsOneOf (part a) ks
  -- what was found of each part stands for all that it does
  pub stands : (k : ℕ) → IsOneOf k ks → StandsFor moves Within (of_both among part k) s (each k)
  -- what is within the summary of one is apart from what is within that of another
  pub apart :
      (i j : ℕ) (f g : F) → i ≢ j → IsOneOf i ks → IsOneOf j ks → Within f (each i).summary → Within g (each j).summary → moves.Apart f g
  pub summary : (k : ℕ) (f : F) → IsOneOf k ks → Within f (each k).summary → Within f found.summary
  pub texts : (k : ℕ) (text : List ℕ) → IsOneOf k ks → Contains (each k).texts text → Contains found.texts text
  -- one way of each part, one after another, is a way of the set
  pub ways :
      (ways : ℕ → List (L × F)) → ((k : ℕ) → IsOneOf k ks → Contains (each k).ways (ways k)) → Contains found.ways (all_ways ways ks)

-- what was found of the parts stands for all that the set does
abbrev pub PartsStandFor : {S L F Y : Type 0} → Moves S L F → (F → Y → Type 0) → Type 0
PartsStandFor {S} {L} {F} {Y} moves Within =
    (among : L → Bool) (part : L → ℕ) (s : S) (ks : List ℕ) (each : ℕ → FoundOfSet L F Y) (found : FoundOfSet L F Y) → AreMoves moves
    → AreCombined moves Within among part s ks each found → StandsFor moves Within among s found

-- what was found for a set of actors stands for all that a larger set does, of which nobody else waits
abbrev pub LargerSets : {S L F Y : Type 0} → Moves S L F → (F → Y → Type 0) → Type 0
LargerSets {S} {L} {F} {Y} moves Within =
    (among others : L → Bool) (s : S) (found : FoundOfSet L F Y) → AreMoves moves → ((a : L) → among a ≡ true → others a ≡ true)
    → ((a : L) → others a ≡ true → moves.Waits s a → among a ≡ true) → StandsFor moves Within among s found
    → StandsFor moves Within others s found

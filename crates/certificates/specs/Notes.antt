-- What is noted of steps, and when a note tells all that a footprint does.
use Rattle.std.specs.Prelude.{◌≡◌, ℕ, Bool, true, false, List, [], ◌∷◌}
use Rattle.std.specs.List.{Contains}
use Rattle.model.specs.Design.{Trigger}
use Rattle.model.specs.Turns.{contains}
use Rattle.loose.specs.declared.transition.LooseTransition.{LooseTransition}
use Rattle.footprints.specs.Footprints.{RegisterChange, Footprint, written_registers, AreApart}

-- A note of a step: its owner; registers, changes, triggers and processes as those of a footprint; and whether it prints, meets a $strobe,
-- and meets $finish.
pub record NoteView : Type 0 where
  pub owner : LooseTransition
  pub uses : List ℕ
  pub writes : List ℕ
  pub changes : List RegisterChange
  pub awaits : List Trigger
  pub woken : List ℕ
  pub ended : List Trigger
  pub assigns : List (ℕ × ℕ)
  pub prints : Bool
  pub strobes : Bool
  pub finishes : Bool

-- A note tells of a step if whatever the step's footprint has is noted. It may note more, but for the processes that the step wakes: whose
-- steps come of it is told by them, so that none may be missed and none invented.
pub record TellsOf (note : NoteView) (f : Footprint) : Type 0 where
  pub owner : f.owner ≡ note.owner
  pub uses : (r : ℕ) → contains f.uses r ≡ true → contains note.uses r ≡ true
  pub writes : (r : ℕ) → contains (written_registers f) r ≡ true → contains note.writes r ≡ true
  pub changes : (c : RegisterChange) → Contains f.changes c → Contains note.changes c
  pub awaits : (t : Trigger) → Contains f.awaits t → Contains note.awaits t
  pub woken : (p : ℕ) → contains f.woken p ≡ contains note.woken p
  pub ended : (t : Trigger) → Contains f.ended t → Contains note.ended t
  pub assigns : (a : ℕ × ℕ) → Contains f.assigns a → Contains note.assigns a
  pub prints : note.prints ≡ false → f.lines ≡ []
  pub strobes : note.strobes ≡ false → f.strobes ≡ false
  pub finishes : note.finishes ≡ false → f.finishes ≡ false

-- notes tell of steps, each of its own, and name the actors
abbrev pub TellOfAll : List NoteView → List (LooseTransition × Footprint) → Type 0
TellOfAll [] [] = Unit {0}
TellOfAll (note ∷ notes) (x ∷ w) = (x.0 ≡ note.owner) × TellsOf note x.1 × TellOfAll notes w
TellOfAll _ _ = ⊥

-- whatever steps two notes tell of, they are apart
abbrev pub StandApart : NoteView → NoteView → Type 0
StandApart a b = (f g : Footprint) → TellsOf a f → TellsOf b g → AreApart f g

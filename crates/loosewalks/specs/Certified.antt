-- Steps of a machine that are taken with notes, which certify that they stand for all.
use Rattle.std.specs.Prelude.{◌≡◌, ℕ, ◌+◌, List, [], ◌∷◌, ◌++◌}
use Rattle.model.specs.declared.end.Limits.{Limits}
use Rattle.orders.specs.Alike.{IsInOrder}
use Rattle.design.specs.Compiled.{design_of}
use Rattle.regions.specs.Machine.{MachineView, state_at}
use Rattle.regions.specs.StepLogs.{IsTaken}
use Rattle.loose.specs.declared.transition.LooseTransition.{LooseTransition}
use Rattle.traces.specs.Traces.{IsRunOfMoves}
use Rattle.footprints.specs.Footprints.{Footprint}
use Rattle.footprints.specs.Moves.{loose_moves}
use Rattle.certificates.specs.Notes.{NoteView, TellOfAll}
use Rattle.certificates.specs.Certified.{Certify}
use Rattle.certifiedruns.specs.CertifiedCover.{actors_of}
use Rattle.noted.specs.NotedSteps.{IsEntryNoted}
use Rattle.loosewalks.specs.declared.active.NamedEntry.{NamedEntry}
use Rattle.loosewalks.specs.LooseWalking.{TakesMoves}

-- The steps of a machine are those of which these notes tell, and their actors are these moves.
pub record AreNotedSteps (class : ℕ → ℕ) (old : MachineView) (order : IsInOrder (state_at old)) (notes : List NoteView) (moves : List LooseTransition) (new : MachineView) : Type 0 where
  pub steps : List (LooseTransition × Footprint)
  pub new_order : IsInOrder (state_at new)
  pub runs : IsRunOfMoves (loose_moves class (design_of old.code)) (state_at old, order) steps (state_at new, new_order)
  pub tells : TellOfAll notes steps
  pub moves_are : moves ≡ actors_of steps

-- A machine took the events of these moves, with these notes.
pub record TakesNoted (class : ℕ → ℕ) (limits : Limits) (old : MachineView) (notes : List NoteView) (moves : List LooseTransition) (new : MachineView) : Type 0 where
  pub takes : TakesMoves class limits old moves new
  pub noted : (order : IsInOrder (state_at old)) → AreNotedSteps class old order notes moves new

-- A machine took an entry. Its note stands behind others, and its transition behind others.
pub record HasAddedNote (class : ℕ → ℕ) (old : MachineView) (named : NamedEntry) (new : MachineView) (notes more : List NoteView) (way longer : List LooseTransition) : Type 0 where
  pub note : NoteView
  pub noted : IsEntryNoted class old.code (state_at old) named.entry note
  pub taken : IsTaken old.code (state_at old) old.lines named.entry (state_at new) new.lines
  pub count : new.core.entries ≡ old.core.entries + 1
  pub notes_are : more ≡ notes ++ note ∷ []
  pub way_is : longer ≡ way ++ named.transition ∷ []

-- a machine took the events of these moves until none was active, with notes that certify
pub record HasCertified (class : ℕ → ℕ) (limits : Limits) (old : MachineView) (moves : List LooseTransition) (new : MachineView) : Type 0 where
  pub notes : List NoteView
  pub takes : TakesNoted class limits old notes moves new
  pub certify : Certify notes
  pub over : (state_at new).active ≡ []

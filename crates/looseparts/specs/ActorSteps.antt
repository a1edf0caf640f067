-- A step of an actor that a machine takes.
use Rattle.std.specs.Prelude.{◌≡◌, ℕ, ◌++◌}
use Rattle.model.specs.States.{State}
use Rattle.orders.specs.Alike.{IsInOrder}
use Rattle.design.specs.Compiled.{design_of}
use Rattle.regions.specs.Machine.{MachineView, state_at}
use Rattle.loose.specs.declared.transition.LooseTransition.{LooseTransition}
use Rattle.loose.specs.Loose.{AlikeIn}
use Rattle.footprints.specs.Footprints.{Footprint}
use Rattle.footprints.specs.Moves.{IsMove}
use Rattle.certificates.specs.Notes.{NoteView, TellsOf}

-- From where a machine stands an actor takes a step of which a note tells. It leads to what is like where the machine stands then, up to the
-- order of updates of different classes; the run is finished there if the step ends it; and what it prints stands behind the lines.
pub record IsActorStep (class : ℕ → ℕ) (old : MachineView) (actor : LooseTransition) (note : NoteView) (new : MachineView) : Type 0 where
  pub own : Footprint
  pub after : State
  pub after_order : IsInOrder after
  pub steps : IsMove class (design_of old.code) (state_at old) actor own after
  pub tells : TellsOf note own
  pub ends : own.finishes ≡ new.core.finished
  pub alike : AlikeIn class after (state_at new)
  pub new_order : IsInOrder (state_at new)
  pub lines_are : new.lines ≡ old.lines ++ own.lines

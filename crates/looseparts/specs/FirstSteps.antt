-- The first step of an actor, which a copy of a machine takes.
use Rattle.std.specs.Prelude.{◌≡◌, ◌⊎◌, ℕ, false, true, List}
use Rattle.std.specs.List.{Contains}
use Rattle.regions.specs.Machine.{MachineView, state_at}
use Rattle.loose.specs.declared.transition.LooseTransition.{LooseTransition}
use Rattle.footprints.specs.Moves.{IsWaiting}
use Rattle.certificates.specs.Coming.{wakes_actor}
use Rattle.looseparts.specs.ActorSteps.{IsActorStep}
use Rattle.looseparts.specs.declared.find.FirstStep.{FirstStep}

-- From where a machine stands an actor took this step, of which the note tells. Unless the run has finished, all those wait next who wait
-- behind it, and are of a group or were woken by it.
pub record IsFirstStep (class : ℕ → ℕ) (old : MachineView) (group : List LooseTransition) (actor : LooseTransition) (step : FirstStep) : Type 0 where
  pub taken : IsActorStep class old actor step.note step.machine.value
  pub code : step.machine.value.code ≡ old.code
  pub waiting :
      step.machine.value.core.finished ≡ false → (a : LooseTransition) → IsWaiting class (state_at step.machine.value) a
      → Contains group a ⊎ (wakes_actor step.note a ≡ true) → Contains step.next.items a

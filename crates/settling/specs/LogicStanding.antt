-- Where a process of some logic stands.
use Rattle.std.specs.Prelude.{◌≡◌, ℕ, ◌<◌, List, length, Option, Some, None, slice_index_or}
use Rattle.model.specs.Design.{Design, Trigger}
use Rattle.model.specs.States.{State}
use Rattle.model.specs.Turns as turns
use Rattle.model.specs.Runs.{turn_of}
use Rattle.model.specs.Laws.{evaluations_in}
use Rattle.orders.specs.Apart.{all_given}
use Rattle.design.specs.declared.code.ProcState.{ProcState}
use Rattle.regions.specs.declared.queue.Continuation.{Continuation}
use Rattle.regions.specs.Queue.{Core}
use Rattle.combinational.specs.declared.block.Logic.{Logic}

-- where a process goes on among those of a queue, where there is one with this number
abbrev pub IsContinuedAt : Core → ℕ → ProcState → Type 0
IsContinuedAt core p place =
    (p < length core.processes) × ((d : ProcState × List Trigger) → (slice_index_or core.processes p d).0 ≡ place)

-- a process goes on behind the wait of this logic
pub record StandsBehind (continuation : Continuation) (logic : Logic) : Type 0 where
  pub place : continuation.state.place ≡ logic.place
  pub pending : continuation.state.pending ≡ None

-- a process has a short turn, which leaves every value as it is
abbrev pub HasUnchangingTurn : Design → State → ℕ → Type 0
HasUnchangingTurn design s p = (turn : turns.Turn) × (turn_of design s p ≡ Some turn) × (all_given s.store turn.writes ≡ s.store)

-- a process waits for nothing, and has one evaluation; or it waits by this event control, and has none
abbrev pub StandsAs : State → ℕ → ℕ → Option ℕ → Type 0
StandsAs s p control None = evaluations_in p s.active ≡ 1
StandsAs s p control (Some waits) = (waits ≡ control) × (evaluations_in p s.active ≡ 0)

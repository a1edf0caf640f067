-- What a key has of the parts of a state.
use Rattle.std.specs.Prelude.{ℕ, Option}
use Rattle.logic4.specs.Vector.{Vector}
use Rattle.design.specs.declared.code.ProcState.{ProcState}
use Rattle.regions.specs.declared.queue.Continuation.{Continuation}
use Rattle.regions.specs.declared.queue.Update.{Update}
use Rattle.regions.specs.declared.queue.Evaluation.{Evaluation}
use Rattle.regions.specs.declared.future.Due.{Due}

-- where a process goes on, and the event control that it waits at
abbrev pub going_on : Continuation → ProcState × Option ℕ
going_on p = (p.state, p.waits)

-- an update without its number
abbrev pub unnumbered_update : Update → ℕ × Vector
unnumbered_update u = (u.register, u.value)

-- the process of an evaluation to come, with its time
abbrev pub due_process : Due Evaluation → ℕ × ℕ
due_process d = (d.time, d.event.process)

-- an update to come without its number, with its time
abbrev pub due_assignment : Due Update → ℕ × (ℕ × Vector)
due_assignment d = (d.time, unnumbered_update d.event)

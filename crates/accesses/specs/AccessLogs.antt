-- Logs of turns, and the event controls by which they are read.
use Rattle.std.specs.Prelude.{◌≡◌, ℕ, List, Some}
use Rattle.logic4.specs.Vector.{Vector}
use Rattle.model.specs.Design.{Trigger}
use Rattle.model.specs.Turns.{Remainder, Turn}
use Rattle.model.specs.States.{Event, Update}
use Rattle.model.specs.Runs.{action_in}
use Rattle.design.specs.declared.code.ProcState.{ProcState}
use Rattle.turn.specs.TurnLogs.{LogView, IsLogOf}

-- the log is a turn, whatever the states of a process stand for, where these are the triggers of the event controls
abbrev pub IsTurnInLog : List (List Trigger) → LogView → Turn → Type 0
IsTurnInLog controls log turn = (rem : ProcState → Remainder) × IsLogOf rem controls log turn

-- the event with a number is an update of a register
abbrev pub IsUpdateOf : List Event → ℕ → ℕ → Type 0
IsUpdateOf events number register = (value : Vector) × (action_in events number ≡ Some (Update register value))

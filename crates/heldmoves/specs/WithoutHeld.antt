-- States in which some processes are held: their active events are left aside, and they wait for nothing. A test says which are held.
use Rattle.std.specs.Prelude.{ℕ, Bool, false, not, if◌then◌else◌, List, [], map, filter}
use Rattle.std.specs.List.{enumerate_from}
use Rattle.model.specs.States.{Action, Evaluate, Event, Continuation, State}

-- a process that is held waits for nothing
abbrev pub asleep_if : Bool → Continuation → Continuation
asleep_if held x = if held then record x { triggers = [] } else x

-- processes, of which some are held; the first has this number
abbrev pub asleep_from : (ℕ → Bool) → ℕ → List Continuation → List Continuation
asleep_from held first processes = map (λ e. asleep_if (held e.0) e.1) (enumerate_from first processes)

-- whether an action evaluates a process that is held
abbrev pub evaluates_held : (ℕ → Bool) → Action → Bool
evaluates_held held (Evaluate p) = held p
evaluates_held held (Action.Update r v) = false

-- events without those that evaluate a process that is held
abbrev pub others_among : (ℕ → Bool) → List Event → List Event
others_among held events = filter (λ e. not (evaluates_held held e.1)) events

-- a state without what is active of the processes that are held, in which these wait for nothing
abbrev pub without_held : (ℕ → Bool) → State → State
without_held held s = record s { processes = asleep_from held 0 s.processes; active = others_among held s.active }

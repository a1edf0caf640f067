-- What a key tells of a state.
use Rattle.std.specs.Prelude.{◌≡◌, ℕ, ◌==◌, Bool, List, [], ◌++◌, Option, map, filter}
use Rattle.logic4.specs.Vector.{Vector}
use Rattle.model.specs.States.{Event, due_at}
use Rattle.model.specs.Laws.{evaluations_in, times_in}
use Rattle.orders.specs.Alike as alike
use Rattle.orders.specs.Alike.{updates_in}
use Rattle.design.specs.declared.code.ProcState.{ProcState}
use Rattle.regions.specs.Queue.{Core}
use Rattle.regions.specs.ProcessWaking.{triggers_at}
use Rattle.statekeys.specs.KeyCodes.{nat_code, bool_code, pair_code, option_code, list_code, vector_code}

-- What a key tells: where each process goes on, and the event control that it waits at; updates as registers and values in their
-- order; and the processes of evaluations in any order, those to come with their times.
pub record KeyContent : Type 0 where
  pub time : ℕ
  pub finished : Bool
  pub values : List Vector
  pub processes : List (ProcState × Option ℕ)
  pub updates : List (ℕ × Vector)
  pub evaluations : List ℕ
  pub inactive : List ℕ
  pub nonblocking : List (ℕ × Vector)
  pub monitor : List ℕ
  pub future_times : List ℕ
  pub future_evaluations : List (ℕ × ℕ)
  pub future_updates : List (ℕ × (ℕ × Vector))

-- those of one time, of what stands with its time
abbrev pub at_time : {A : Type 0} → ℕ → List (ℕ × A) → List A
at_time time xs = map (λ x. x.1) (filter (λ x. x.0 == time) xs)

-- The events are these updates in this order, and each process has as many evaluations as it stands among the processes.
pub record AreEvents (updates : List (ℕ × Vector)) (processes : List ℕ) (events : List Event) : Type 0 where
  pub in_order : updates_in events ≡ updates
  pub as_many : (p : ℕ) → evaluations_in p events ≡ times_in p processes

-- The events to come have these times, and those of each time are its updates and the evaluations of its processes.
pub record AreToCome (times : List ℕ) (updates : List (ℕ × (ℕ × Vector))) (processes : List (ℕ × ℕ)) (future : List (ℕ × Event)) : Type 0 where
  pub in_time : alike.times future ≡ times
  pub due : (time : ℕ) → AreEvents (at_time time updates) (at_time time processes) (due_at time future)

-- This is told of a state with these values of the registers: all but the numbers of its events, the next number, the count of
-- entries, and the order of evaluations.
pub record IsToldOf (core : Core) (values : List Vector) (told : KeyContent) : Type 0 where
  pub time : told.time ≡ core.time
  pub finished : told.finished ≡ core.finished
  pub store : told.values ≡ values
  pub processes : map (λ p. (p.0, triggers_at core.controls p.1)) told.processes ≡ core.processes
  pub active : AreEvents told.updates told.evaluations core.active
  pub inactive : AreEvents [] told.inactive core.inactive
  pub nonblocking : AreEvents told.nonblocking [] core.nonblocking
  pub monitor : told.monitor ≡ core.monitor
  pub future_inactive : AreToCome told.future_times [] told.future_evaluations core.future_inactive
  pub future_nonblocking : AreToCome (map (λ u. u.0) told.future_updates) told.future_updates [] core.future_nonblocking

-- the code of where a process goes on
abbrev pub state_code : ProcState → List ℕ
state_code s = nat_code s.place ++ option_code (pair_code nat_code vector_code) s.pending

-- the code of where a process goes on, and of the event control that it waits at
abbrev pub process_code : ProcState × Option ℕ → List ℕ
process_code p = state_code p.0 ++ option_code nat_code p.1

-- the code of a register and its value
abbrev pub update_code : ℕ × Vector → List ℕ
update_code u = nat_code u.0 ++ vector_code u.1

-- the code of what a key tells
abbrev pub key_code : KeyContent → List ℕ
key_code told =
    nat_code told.time ++ bool_code told.finished ++ list_code vector_code told.values ++ list_code process_code told.processes
    ++ list_code update_code told.updates ++ list_code nat_code told.evaluations ++ list_code nat_code told.inactive
    ++ list_code update_code told.nonblocking ++ list_code nat_code told.monitor ++ list_code nat_code told.future_times
    ++ list_code (pair_code nat_code nat_code) told.future_evaluations ++ list_code (pair_code nat_code update_code) told.future_updates

-- these bytes are a key of a state with these values of the registers
abbrev pub IsKey : Core → List Vector → List ℕ → Type 0
IsKey core values key = (told : KeyContent) × IsToldOf core values told × (key ≡ key_code told)

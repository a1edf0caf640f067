-- What a class key tells of a state: what a key tells, but for the order of updates of different classes.
use Rattle.std.specs.Prelude.{◌≡◌, ℕ, List, [], ◌++◌, map}
use Rattle.std.specs.List.Sorted.{IsNonDecreasingBy}
use Rattle.logic4.specs.Vector.{Vector}
use Rattle.model.specs.States.{Event, due_at}
use Rattle.model.specs.Laws.{evaluations_in, times_in}
use Rattle.orders.specs.Alike as alike
use Rattle.orders.specs.Alike.{updates_in}
use Rattle.loose.specs.Loose.{of_class}
use Rattle.regions.specs.Queue.{Core}
use Rattle.regions.specs.ProcessWaking.{triggers_at}
use Rattle.statekeys.specs.KeyCodes.{nat_code, list_code}
use Rattle.statekeys.specs.Keys.{KeyContent, at_time, AreEvents, AreToCome, key_code}

-- The updates are grouped by class: their classes rise, and those of each class stand in their own order.
pub record IsGrouped (class : ℕ → ℕ) (updates grouped : List (ℕ × Vector)) : Type 0 where
  pub in_order : (c : ℕ) → of_class class c grouped ≡ of_class class c updates
  pub rising : IsNonDecreasingBy (λ u. class u.0) grouped

-- The events are these updates, grouped by class, and each process has as many evaluations as it stands among the processes.
pub record AreEventsIn (class : ℕ → ℕ) (updates : List (ℕ × Vector)) (processes : List ℕ) (events : List Event) : Type 0 where
  pub grouped : IsGrouped class (updates_in events) updates
  pub as_many : (p : ℕ) → evaluations_in p events ≡ times_in p processes

-- The events to come have these times, and are these updates: their times rise, and those of each time are grouped by class.
pub record AreUpdatesToCome (class : ℕ → ℕ) (times : List ℕ) (updates : List (ℕ × (ℕ × Vector))) (future : List (ℕ × Event)) : Type 0 where
  pub in_time : alike.times future ≡ times
  pub due : (time : ℕ) → AreEventsIn class (at_time time updates) [] (due_at time future)
  pub rising : IsNonDecreasingBy (λ u. u.0) updates

-- This is told of a state with these values of the registers, and with these times of the updates to come: all but the numbers of
-- its events, the next number, the count of entries, and the order of evaluations and of updates of different classes.
pub record IsToldInClasses (class : ℕ → ℕ) (core : Core) (values : List Vector) (told : KeyContent) (update_times : List ℕ) : Type 0 where
  pub time : told.time ≡ core.time
  pub finished : told.finished ≡ core.finished
  pub store : told.values ≡ values
  pub processes : map (λ p. (p.0, triggers_at core.controls p.1)) told.processes ≡ core.processes
  pub active : AreEventsIn class told.updates told.evaluations core.active
  pub inactive : AreEvents [] told.inactive core.inactive
  pub nonblocking : AreEventsIn class told.nonblocking [] core.nonblocking
  pub monitor : told.monitor ≡ core.monitor
  pub future_inactive : AreToCome told.future_times [] told.future_evaluations core.future_inactive
  pub future_nonblocking : AreUpdatesToCome class update_times told.future_updates core.future_nonblocking

-- These bytes are a class key of a state with these values of the registers: the code of what is told, and of the times of the
-- updates to come.
pub record IsClassKey (class : ℕ → ℕ) (core : Core) (values : List Vector) (key : List ℕ) : Type 0 where
  pub told : KeyContent
  pub update_times : List ℕ
  pub of_state : IsToldInClasses class core values told update_times
  pub bytes : key ≡ key_code told ++ list_code nat_code update_times

-- The state of a simulation, and what changes, turns and region changes make of it (IEEE 1364-2005, 11.3 and 11.4).
use Rattle.std.specs.Prelude.{ℕ, ◌+◌, Bool, true, false, not, ◌&&◌, ◌==◌, nat_le, if◌then◌else◌, List, [], ◌∷◌, ◌++◌, map, length, filter, slice_set}
use Rattle.std.specs.List.{list_any, enumerate_from}
use Rattle.logic4.specs.declared.digit.Edge.{Edge}
use Rattle.logic4.specs.declared.digit.Edge.TheVariants.{Same, Pos, Neg}
use Rattle.logic4.specs.Vector.{Vector, unknown}
use Rattle.logic4.specs.Operators.{same_vector}
use Rattle.logic4.specs.Edges.{edge}
use Rattle.model.specs.declared.tree.Change.{Change}
use Rattle.model.specs.declared.tree.Change.TheVariants.{Any, Posedge, Negedge}
use Rattle.model.specs.Design.{Design, Trigger}
use Rattle.model.specs.Expressions.{Store, value_of}
use Rattle.model.specs.Turns.{Remainder, Wait, Ended, Inactive, Until, OnChange, NonblockingAssignment, Turn, whole}

-- whether a change of this kind is what an event control waits for (9.7.2)
abbrev pub edge_matches : Change → Edge → Bool
edge_matches change Same = false
edge_matches Any _ = true
edge_matches Posedge Pos = true
edge_matches Negedge Neg = true
edge_matches _ _ = false

-- whether an event control with these triggers matches the change of a register from one value to another
abbrev pub wakes : List Trigger → ℕ → Vector → Vector → Bool
wakes triggers r old new = list_any (λ t. (t.1 == r) && edge_matches t.0 (edge old new)) triggers

-- what an event does: the evaluation of the process with a number, or the update of a register (11.2)
pub data Action : Type 0 where
  Evaluate : (process : ℕ) → Action
  Update : (register : ℕ) (value : Vector) → Action

-- an event: its number and what it does
abbrev pub Event : Type 0
Event = ℕ × Action

-- a process between two turns: its remainder, and the triggers that it waits for, if it waits for any
pub record Continuation : Type 0 where
  pub remainder : Remainder
  pub triggers : List Trigger

-- The state. Each set of events stands in the order of their numbers. The monitor region has the places of the $strobe
-- statements that were met, in that order. A future event has its time before it, and future events stand in the order of
-- their times, and those of one time in the order of their numbers.
pub record State : Type 0 where
  pub time : ℕ
  pub store : Store
  pub processes : List Continuation
  pub active : List Event
  pub inactive : List Event
  pub nonblocking : List Event
  pub monitor : List ℕ
  pub future_inactive : List (ℕ × Event)
  pub future_nonblocking : List (ℕ × Event)
  pub next_event : ℕ
  pub finished : Bool

-- a process that hasn't begun
abbrev pub unbegun : Design → ℕ → Continuation
unbegun design p = record { remainder = whole design p; triggers = [] }

-- at the start every register is all x, and each process has the active event of its own number
abbrev pub start : Design → State
start design =
    record {
      time = 0;
      store = map unknown design.widths;
      processes = map (λ e. unbegun design e.0) (enumerate_from 0 design.processes);
      active = map (λ e. (e.0, Evaluate e.0)) (enumerate_from 0 design.processes);
      inactive = [];
      nonblocking = [];
      monitor = [];
      future_inactive = [];
      future_nonblocking = [];
      next_event = length design.processes;
      finished = false;
    }

-- New events get the next numbers, in order.
abbrev pub numbered : State → List Action → List Event
numbered s actions = enumerate_from s.next_event actions

-- new active events
abbrev pub with_active : List Action → State → State
with_active actions s =
    record s { active = s.active ++ numbered s actions; next_event = s.next_event + length actions }

-- new inactive events
abbrev pub with_inactive : List Action → State → State
with_inactive actions s =
    record s { inactive = s.inactive ++ numbered s actions; next_event = s.next_event + length actions }

-- new nonblocking updates
abbrev pub with_nonblocking : List Action → State → State
with_nonblocking actions s =
    record s { nonblocking = s.nonblocking ++ numbered s actions; next_event = s.next_event + length actions }

-- future events with one more, which stands behind those that are due at its time or before
abbrev pub with_due : ℕ × Event → List (ℕ × Event) → List (ℕ × Event)
with_due f [] = f ∷ []
with_due f (g ∷ gs) = if nat_le g.0 f.0 then g ∷ with_due f gs else f ∷ g ∷ gs

-- a future inactive event, and a future update (11.3)
abbrev pub with_future_inactive : ℕ → Action → State → State
with_future_inactive due action s =
    record s { future_inactive = with_due (due, (s.next_event, action)) s.future_inactive; next_event = s.next_event + 1 }

-- a future update
abbrev pub with_future_nonblocking : ℕ → Action → State → State
with_future_nonblocking due action s =
    record s { future_nonblocking = with_due (due, (s.next_event, action)) s.future_nonblocking; next_event = s.next_event + 1 }

-- whether a process waits for the change of a register from one value to another
abbrev pub is_woken : ℕ → Vector → Vector → Continuation → Bool
is_woken r old new p = wakes p.triggers r old new

-- the evaluations of the processes that wait for a change, in the order of the processes
abbrev pub woken : ℕ → Vector → Vector → List Continuation → List Action
woken r old new processes =
    map (λ e. Evaluate e.0) (filter (λ e. is_woken r old new e.1) (enumerate_from 0 processes))

-- a process that a change wakes waits no more
abbrev pub after_wake : ℕ → Vector → Vector → Continuation → Continuation
after_wake r old new p = if is_woken r old new p then record p { triggers = [] } else p

-- the register gets the value, which is another one than its own
abbrev pub with_value : ℕ → Vector → State → State
with_value r v s =
    with_active (woken r (value_of s.store r) v s.processes)
    (record s { store = slice_set s.store r v; processes = map (after_wake r (value_of s.store r) v) s.processes })

-- A register is given a value: nothing happens where it is its own value, else each process that waits for the
-- change becomes active.
abbrev pub change : State → ℕ → Vector → State
change s r v = if same_vector (value_of s.store r) v then s else with_value r v s

-- changes in order
abbrev pub change_all : State → List (ℕ × Vector) → State
change_all s [] = s
change_all s (w ∷ ws) = change_all (change s w.0 w.1) ws

-- a nonblocking assignment makes an update in the nonblocking region, or in the future where it is due later (9.2.2)
abbrev pub schedule : State → NonblockingAssignment → State
schedule s later =
    if later.due == s.time then with_nonblocking (Update later.register later.value ∷ []) s
    else with_future_nonblocking later.due (Update later.register later.value) s

-- the updates of nonblocking assignments, in order
abbrev pub schedule_all : State → List NonblockingAssignment → State
schedule_all s [] = s
schedule_all s (later ∷ nbas) = schedule_all (schedule s later) nbas

-- the event of a process's own wait, if that makes one
abbrev pub schedule_wait : ℕ → Wait → State → State
schedule_wait p Ended s = s
schedule_wait p Inactive s = with_inactive (Evaluate p ∷ []) s
schedule_wait p (Until time) s = with_future_inactive time (Evaluate p) s
schedule_wait p (OnChange triggers) s = s

-- the changes that a wait is for
abbrev pub triggers_of : Wait → List Trigger
triggers_of (OnChange triggers) = triggers
triggers_of _ = []

-- events without the one with a number
abbrev pub without : ℕ → List Event → List Event
without number events = filter (λ e. not (e.0 == number)) events

-- an active event is taken
abbrev pub taking : ℕ → State → State
taking number s = record s { active = without number s.active }

-- the process with this number goes on with this remainder once its triggers, if it has any, wake it, and its strobes
-- stand behind those of earlier turns
abbrev pub with_continuation : ℕ → Turn → State → State
with_continuation p turn s =
    record s {
      processes = slice_set s.processes p (record { remainder = turn.rest; triggers = triggers_of turn.wait });
      monitor = s.monitor ++ turn.strobes;
      finished = turn.finish;
    }

-- A turn of the process p, taken by the event with this number: its writes in order, then the events of its
-- nonblocking assignments in order, then the event of its own wait.
abbrev pub turned : State → ℕ → ℕ → Turn → State
turned s number p turn =
    with_continuation p turn
    (schedule_wait p turn.wait (schedule_all (change_all (taking number s) turn.writes) turn.nbas))

-- an update, taken by the event with this number
abbrev pub updated : State → ℕ → ℕ → Vector → State
updated s number r v = change (taking number s) r v

-- all inactive events become active
abbrev pub inactive_activated : State → State
inactive_activated s = record s { active = s.active ++ s.inactive; inactive = [] }

-- all nonblocking updates become active
abbrev pub nonblocking_activated : State → State
nonblocking_activated s = record s { active = s.active ++ s.nonblocking; nonblocking = [] }

-- the monitor region is emptied
abbrev pub monitored : State → State
monitored s = record s { monitor = [] }

-- whether an event evaluates a process
abbrev pub is_evaluation : Action → Bool
is_evaluation (Evaluate p) = true
is_evaluation (Update r v) = false

-- the events of a time
abbrev pub due_at : ℕ → List (ℕ × Event) → List Event
due_at time future = map (λ f. f.1) (filter (λ f. f.0 == time) future)

-- the future events of other times
abbrev pub due_else : ℕ → List (ℕ × Event) → List (ℕ × Event)
due_else time future = filter (λ f. not (f.0 == time)) future

-- the time advances: its future inactive events become active, its future updates nonblocking
abbrev pub advanced : State → ℕ → State
advanced s time =
    record s {
      time = time;
      active = due_at time s.future_inactive;
      nonblocking = due_at time s.future_nonblocking;
      future_inactive = due_else time s.future_inactive;
      future_nonblocking = due_else time s.future_nonblocking;
    }

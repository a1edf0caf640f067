-- What is told of an entry, by what came of the entries before it.
use Rattle.std.specs.Prelude.{◌≡◌, ℕ, min, List, [], ◌∷◌, map, Some, slice_set, string_bytes}
use Rattle.logic4.specs.Vector.{Vector}
use Rattle.model.specs.declared.entry.Entry.{Entry}
use Rattle.model.specs.declared.entry.Entry.TheVariants as entries
use Rattle.model.specs.Design.{Design}
use Rattle.model.specs.Expressions.{Store, value_of}
use Rattle.model.specs.Turns as turns
use Rattle.model.specs.States.{State, Evaluate}
use Rattle.model.specs.States as states
use Rattle.model.specs.Runs.{Effect, action_in, turn_of, version, step}
use Rattle.turn.specs.declared.log.Nba.{Nba}
use Rattle.turn.specs.TurnLogs.{assignment_of}
use Rattle.steps.specs.declared.entry_account.Reading.{Reading}
use Rattle.steps.specs.declared.entry_account.Changed.{Changed}
use Rattle.steps.specs.declared.entry_account.EntryActor.{EntryActor}
use Rattle.steps.specs.declared.entry_account.EntryActor.TheVariants as actors
use Rattle.steps.specs.declared.entry_account.EntryAccount.{EntryAccount}

-- the greatest version that is told
abbrev pub greatest_version : ℕ
greatest_version = 18446744073709551615

-- the version of a register as it is told: the number of its changes, or the greatest version where that is less
abbrev pub told_version : Effect → ℕ → ℕ
told_version before r = min (version before r) greatest_version

-- a register as a turn reads it: its value and its version
abbrev pub reading : Effect → ℕ → Reading
reading before r = record { register = r; value = value_of before.state.store r; version = told_version before r }

-- changes in order, each with the value that its register had before it
abbrev pub changed_from : Store → List (ℕ × Vector) → List Changed
changed_from store [] = []
changed_from store (c ∷ cs) =
    record { register = c.0; before = value_of store c.0; after = c.1 } ∷ changed_from (slice_set store c.0 c.1) cs

-- what is told of an entry, as plain lists
pub record Account : Type 0 where
  pub time : ℕ
  pub actor : EntryActor
  pub reads : List Reading
  pub changes : List Changed
  pub assigned : List Nba
  pub lines : List ℕ

-- the plain lists of what is told
abbrev pub account_of : EntryAccount → Account
account_of told =
    record {
      time = told.time;
      actor = told.actor;
      reads = told.reads.items;
      changes = told.changes.items;
      assigned = told.assigned.items;
      lines = string_bytes told.lines;
    }

-- A turn is told by its process, by the registers that it uses, in the order of their first use, each as it is read, and by
-- its nonblocking assignments.
pub record IsTurnTold (design : Design) (s : State) (read : ℕ → Reading) (number : ℕ) (a : Account) : Type 0 where
  pub process : ℕ
  pub action : action_in s.active number ≡ Some (Evaluate process)
  pub turn : turns.Turn
  pub is_turn : turn_of design s process ≡ Some turn
  pub actor : a.actor ≡ actors.Turn process
  pub reads : a.reads ≡ map read turn.uses
  pub assigned : map assignment_of a.assigned ≡ turn.nbas

-- An update is told by its register and its value.
pub record IsUpdateTold (s : State) (number : ℕ) (a : Account) : Type 0 where
  pub register : ℕ
  pub value : Vector
  pub action : action_in s.active number ≡ Some (states.Update register value)
  pub actor : a.actor ≡ actors.Update register value
  pub reads : a.reads ≡ []
  pub assigned : a.assigned ≡ []

-- A change of the regions reads and assigns nothing.
pub record IsRegionsTold (a : Account) : Type 0 where
  pub actor : a.actor ≡ actors.Regions
  pub reads : a.reads ≡ []
  pub assigned : a.assigned ≡ []

-- what is told of who does an entry, where registers are read so
abbrev pub IsActorTold : Design → State → (ℕ → Reading) → Entry → Account → Type 0
IsActorTold design s read (entries.Turn number) a = IsTurnTold design s read number a
IsActorTold design s read (entries.Update number) a = IsUpdateTold s number a
IsActorTold design s read entries.ActivateInactive a = IsRegionsTold a
IsActorTold design s read entries.ActivateNba a = IsRegionsTold a
IsActorTold design s read entries.ActivateMonitor a = IsRegionsTold a
IsActorTold design s read (entries.Advance time) a = IsRegionsTold a

-- What is told of an entry, of which this comes after what came before it: the time after it, who does it, the registers that
-- are read as they stand before it, its changes, each from the value before to the one after, and its lines.
pub record IsAccountOf (design : Design) (before : Effect) (entry : Entry) (effect : Effect) (a : Account) : Type 0 where
  pub is_step : step design before.state entry ≡ Some effect
  pub time : a.time ≡ effect.state.time
  pub actor : IsActorTold design before.state (reading before) entry a
  pub changes : a.changes ≡ changed_from before.state.store effect.changes
  pub lines : a.lines ≡ effect.lines

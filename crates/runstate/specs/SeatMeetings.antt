-- What a seat has met of what an entry read and wrote.
use Rattle.std.specs.Prelude.{◌≡◌, ℕ, ◌<◌, List, Option, Some, None, option_and_then}
use Rattle.logic4.specs.Vector.{Vector}
use Rattle.model.specs.declared.entry.Entry.{Entry}
use Rattle.model.specs.declared.entry.Entry.TheVariants.{Turn, Update, ActivateInactive, ActivateNba, ActivateMonitor, Advance}
use Rattle.model.specs.States as states
use Rattle.model.specs.States.{Action, Evaluate, Event}
use Rattle.model.specs.Runs.{action_in, least}
use Rattle.regions.specs.Find.{update_numbers}
use Rattle.turn.specs.TurnLogs.{LogView}
use Rattle.regcells.specs.Meetings.{fresh_of, HasMetReads, HasMetWrites, AreReadsIn, AreWritesIn}

-- what a turn read and wrote are registers of so many
abbrev pub IsLogIn : ℕ → Option LogView → Type 0
IsLogIn n None = Unit {0}
IsLogIn n (Some log) = AreReadsIn n log.reads × AreWritesIn n log.writes

-- the register that an action gives a value, if it is an update
abbrev pub register_in : Option Action → Option ℕ
register_in None = None
register_in (Some (Evaluate p)) = None
register_in (Some (states.Update r v)) = Some r

-- the register that the first of the updates among some events gives a value
abbrev pub first_register : List Event → Option ℕ
first_register events = register_in (option_and_then (action_in events) (least (update_numbers events)))

-- the register that an entry gives a value, if it is an update: the first that is active
abbrev pub updated_register : List Event → Entry → Option ℕ
updated_register active (Turn event) = None
updated_register active (Update event) = first_register active
updated_register active ActivateInactive = None
updated_register active ActivateNba = None
updated_register active ActivateMonitor = None
updated_register active (Advance time) = None

-- the seat has seen all values of the registers that a turn read
abbrev pub HadMetReads : List (List Vector) → List (List Vector) → Option LogView → Type 0
HadMetReads all new None = Unit {0}
HadMetReads all new (Some log) = HasMetReads all new log.reads

-- the seat has seen all values of the registers that a turn wrote or, after another entry, of the one updated, if it is one of
-- so many
abbrev pub HasMetWritten : List (List Vector) → List (List Vector) → ℕ → Option ℕ → Option LogView → Type 0
HasMetWritten all new n updated None = (r : ℕ) → updated ≡ Some r → r < n → fresh_of new r ≡ fresh_of all r
HasMetWritten all new n updated (Some log) = HasMetWrites all new log.writes

-- the same also of those that a turn read
abbrev pub HasMetLog : List (List Vector) → List (List Vector) → ℕ → Option ℕ → Option LogView → Type 0
HasMetLog all new n updated log = HadMetReads all new log × HasMetWritten all new n updated log

-- Where an explainer stands, and what it comes to by an entry.
use Rattle.std.specs.Prelude.{◌≡◌, ℕ, List, [], ◌∷◌, ◌++◌, length, Option, Some, None}
use Rattle.logic4.specs.Vector.{Vector}
use Rattle.model.specs.declared.entry.Entry.{Entry}
use Rattle.model.specs.declared.entry.Entry.TheVariants as entries
use Rattle.model.specs.States.{Action, Update, State}
use Rattle.model.specs.Runs.{Effect, run}
use Rattle.design.specs.Compiled.{Compiled, design_of}
use Rattle.turn.specs.Evaluate.{written}
use Rattle.turn.specs.TurnLogs.{LogView}
use Rattle.regions.specs.StepLogs.{IsTurnGiven}
use Rattle.regions.specs.Order.{IsOrdered}
use Rattle.regions.specs.Machine.{MachineView, state_at, IsNotTaken}
use Rattle.steps.specs.declared.cells.VersionedValue.{VersionedValue}
use Rattle.steps.specs.declared.entry_account.EntryAccount.{EntryAccount}
use Rattle.steps.specs.declared.fault.StepFault.{StepFault}
use Rattle.steps.specs.declared.fault.StepFault.TheVariants.{NotTaken, Memory}
use Rattle.steps.specs.Accounts.{Account, account_of, told_version, changed_from, IsActorTold, IsAccountOf}
use Rattle.steps.specs.Cells.{cell_values, version_at, reading_in, HasChanged}

-- nothing is told of the entry before any more
pub record IsCleared (told : EntryAccount) : Type 0 where
  pub reads : told.reads.items ≡ []
  pub changes : told.changes.items ≡ []
  pub assigned : told.assigned.items ≡ []

-- where an explainer stands: its machine, the registers with their versions, and what it tells of the last entry
pub record Standing : Type 0 where
  pub position : MachineView
  pub cells : List VersionedValue
  pub account : Account

-- its parts
abbrev pub standing_of : MachineView → List VersionedValue → EntryAccount → Standing
standing_of position cells told = record { position = position; cells = cells; account = account_of told }

-- the events of a state are in order, those of processes that there are, and updates of registers to values of their widths
abbrev pub IsSoundState : Compiled → State → Type 0
IsSoundState code s = IsOrdered code.widths (length s.processes) s

-- The machine's events are sound, and there is a cell of each register of its design.
pub record IsKept (position : MachineView) (cells : List VersionedValue) : Type 0 where
  pub registers : length cells ≡ length position.code.widths
  pub sound : IsSoundState position.code (state_at position)

-- An explainer stands behind a lawful journal: its machine has come to the state after it, it knows each value and each
-- version, and it keeps no line.
pub record IsExplainerBehind (journal : List Entry) (x : Standing) : Type 0 where
  pub effect : Effect
  pub is_run : run (design_of x.position.code) journal ≡ Some effect
  pub state_is : effect.state ≡ state_at x.position
  pub values : cell_values x.cells ≡ effect.state.store
  pub versions : (r : ℕ) → version_at x.cells r ≡ told_version effect r
  pub quiet : x.position.lines ≡ []

-- Behind a lawful journal an entry is one step of the rules. It is told, and the explainer stands behind the journal with it.
pub record IsExplained (journal : List Entry) (entry : Entry) (old new : Standing) : Type 0 where
  pub before : Effect
  pub is_run : run (design_of old.position.code) journal ≡ Some before
  pub effect : Effect
  pub told : IsAccountOf (design_of old.position.code) before entry effect new.account
  pub behind : IsExplainerBehind (journal ++ entry ∷ []) new

-- why an entry isn't explained: the machine doesn't take it, or memory is refused to what is told
abbrev pub IsNotExplained : MachineView → Entry → StepFault → Type 0
IsNotExplained p entry (NotTaken fault) = IsNotTaken p entry fault
IsNotExplained p entry Memory = Unit {0}

-- the register and the value of an update
abbrev pub update_of : Option Action → Option (ℕ × Vector)
update_of (Some (Update r v)) = Some (r, v)
update_of _ = None

-- the entry is the turn of this number, and the log is what its step asks for; or there is no number
abbrev pub IsLogFilled : Compiled → State → Entry → LogView → Option ℕ → Type 0
IsLogFilled code s entry log (Some number) = (entry ≡ entries.Turn number) × IsTurnGiven code s entry (Some log)
IsLogFilled code s entry log None = Unit {0}

-- what is noted of an entry before it is taken: who does it, its changes, and the registers after them
pub record IsNoted (code : Compiled) (s : State) (old : List VersionedValue) (entry : Entry) (effect : Effect) (new : List VersionedValue) (a : Account) : Type 0 where
  pub actor : IsActorTold (design_of code) s (reading_in old) entry a
  pub changes : a.changes ≡ changed_from s.store effect.changes
  pub changed : HasChanged old effect.changes new
  pub store : effect.state.store ≡ written s.store effect.changes

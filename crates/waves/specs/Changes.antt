-- What is told of a run on its way.
use Rattle.std.specs.Prelude.{◌≡◌, ℕ, ◌+◌, ◌<◌, ◌≤◌, Bool, true, false, List, [], ◌∷◌, length, take}
use Rattle.logic4.specs.Vector.{Vector}
use Rattle.logic4.specs.Operators.{same_vector}
use Rattle.model.specs.declared.entry.Entry.{Entry}
use Rattle.model.specs.declared.entry.Entry.TheVariants.{Turn, Update, ActivateInactive, ActivateNba, ActivateMonitor, Advance}
use Rattle.model.specs.Design.{Design}
use Rattle.model.specs.Expressions.{Store}
use Rattle.model.specs.States.{State}
use Rattle.model.specs.Runs.{Effect}
use Rattle.design.specs.Compiled.{Compiled, design_of}
use Rattle.regions.specs.Machine.{MachineView, state_at}
use Rattle.replay.specs.JournalFaults.{IsFaultOf}
use Rattle.replay.specs.Replays.{IsBehind}
use Rattle.waves.specs.declared.wave.ValueChange.{ValueChange}
use Rattle.waves.specs.declared.recorded.Recorded.{Recorded}
use Rattle.waves.specs.declared.fault.WaveFault.{WaveFault}
use Rattle.waves.specs.declared.fault.WaveFault.TheVariants.{Replay, Memory}
use Rattle.waves.specs.Waves.{changed, unknown_store, values_at, EndsTimeAt, AreAtTimesOf, AreChangesInOrder, AreChanges}

-- When a fault comes: the journal isn't replayed to its end, or memory is refused to what is told.
abbrev pub IsWaveFaultOf : Compiled → List Entry → WaveFault → Type 0
IsWaveFaultOf code journal (Replay fault) = IsFaultOf code journal fault
IsWaveFaultOf code journal Memory = Unit {0}

-- a change before others, unless the register has its value already
abbrev pub with_change : Bool → ValueChange → List ValueChange → List ValueChange
with_change true c cs = cs
with_change false c cs = c ∷ cs

-- the changes at a time from values to others, of the registers from one number on
abbrev pub differences : ℕ → ℕ → List Vector → List Vector → List ValueChange
differences time r (old ∷ olds) (new ∷ news) =
    with_change (same_vector old new) (record { time = time; register = r; value = new }) (differences time (r + 1) olds news)
differences time r _ _ = []

-- each of the changes is before a time
abbrev pub AreBefore : ℕ → List ValueChange → Type 0
AreBefore time [] = Unit {0}
AreBefore time (c ∷ cs) = (c.time < time) × AreBefore time cs

-- With so many entries a run has come to a state. All times that ended before it are told, and nothing of its own time; and these
-- values were told last.
pub record AreRecordedChanges (design : Design) (journal : List Entry) (count : ℕ) (s : State) (changes : List ValueChange) (values : Store) : Type 0 where
  pub reads : (k : ℕ) → k < count → (e : Effect) → EndsTimeAt design journal k e
      → (values_at design changes e.state.time ≡ e.state.store) × (e.state.time < s.time)
  pub values_are : changed (unknown_store design) changes ≡ values
  pub times : AreAtTimesOf design journal changes
  pub order : AreChangesInOrder 0 0 changes s.time 0
  pub before : AreBefore s.time changes
  pub changes_are : AreChanges (unknown_store design) changes

-- The same where the time of the state ends, and is told too.
pub record IsToldWhole (design : Design) (journal : List Entry) (count : ℕ) (s : State) (changes : List ValueChange) : Type 0 where
  pub reads : (k : ℕ) → k < count + 1 → (e : Effect) → EndsTimeAt design journal k e
      → (values_at design changes e.state.time ≡ e.state.store) × (e.state.time ≤ s.time)
  pub values_are : changed (unknown_store design) changes ≡ s.store
  pub times : AreAtTimesOf design journal changes
  pub order : AreChangesInOrder 0 0 changes s.time (length design.widths)
  pub before : AreBefore (s.time + 1) changes
  pub changes_are : AreChanges (unknown_store design) changes

-- what is told before an entry: before an advance the time of the state too
abbrev pub IsToldBefore : Entry → Design → List Entry → ℕ → State → List ValueChange → Store → Type 0
IsToldBefore (Turn number) design journal count s changes values = AreRecordedChanges design journal count s changes values
IsToldBefore (Update number) design journal count s changes values = AreRecordedChanges design journal count s changes values
IsToldBefore ActivateInactive design journal count s changes values = AreRecordedChanges design journal count s changes values
IsToldBefore ActivateNba design journal count s changes values = AreRecordedChanges design journal count s changes values
IsToldBefore ActivateMonitor design journal count s changes values = AreRecordedChanges design journal count s changes values
IsToldBefore (Advance time) design journal count s changes values = IsToldWhole design journal count s changes × (values ≡ s.store)

-- a machine stands behind so many entries of a journal
pub record IsBehindCount (journal : List Entry) (count : ℕ) (p : MachineView) : Type 0 where
  pub run : IsBehind (take count journal) p
  pub entries : p.core.entries ≡ count

-- a machine stands behind so many entries of a journal, and this was told
pub record HasRecorded (journal : List Entry) (count : ℕ) (p : MachineView) (told : Recorded) : Type 0 where
  pub at : IsBehindCount journal count p
  pub told_is : AreRecordedChanges (design_of p.code) journal count (state_at p) told.changes.items told.values.items

-- a machine stands behind a journal, and all of it was told
pub record HasToldAll (journal : List Entry) (p : MachineView) (told : Recorded) : Type 0 where
  pub run : IsBehind journal p
  pub told_is : IsToldWhole (design_of p.code) journal (length journal) (state_at p) told.changes.items

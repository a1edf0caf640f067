-- What an observer sees of a journal.
use Rattle.std.specs.Prelude.{◌≡◌, ℕ, ◌+◌, ◌<◌, List, ◌++◌, drop, Some, None}
use Rattle.model.specs.declared.entry.Entry.{Entry}
use Rattle.model.specs.Design.{Design}
use Rattle.model.specs.Runs.{Effect, step}
use Rattle.design.specs.Compiled.{design_of}
use Rattle.regions.specs.Machine.{MachineView, most_entries, state_at, IsNotTaken}
use Rattle.regions.specs.declared.machine.TakeFault.{TakeFault}
use Rattle.looseruns.specs.ObservedJournals.{Observer, observed_step, observed_run_from, observed_run}
use Rattle.observers.specs.declared.observation.Observation.{Observation}

-- The journal is lawful, the text is its observed one, and this is what the observer sees of the state behind it.
pub record IsObservationOf (design : Design) (observe : Observer) (journal : List Entry) (observation : Observation) : Type 0 where
  pub effect : Effect
  pub lawful : observed_run design observe journal ≡ Some effect
  pub prints : observation.text.items ≡ effect.lines
  pub sees : observation.seen.items ≡ observe effect.state

-- where a machine doesn't take an entry for this fault, and took fewer than the most, the entry has no step
abbrev pub HasNoStep : TakeFault → Type 0
HasNoStep fault =
    (p : MachineView) (entry : Entry) → p.core.entries < most_entries → IsNotTaken p entry fault
    → step (design_of p.code) (state_at p) entry ≡ None

-- A machine took an entry, and what was told before with the lines that it has grew by what comes of the observed step.
pub record IsTakenObserved (observe : Observer) (old : MachineView) (text : List ℕ) (entry : Entry) (new : MachineView) (told : List ℕ) : Type 0 where
  pub effect : Effect
  pub is_step : observed_step (design_of old.code) observe (state_at old) entry ≡ Some effect
  pub state_is : effect.state ≡ state_at new
  pub prints : told ++ new.lines ≡ (text ++ old.lines) ++ effect.lines
  pub entries : new.core.entries ≡ old.core.entries + 1

-- So many entries of a journal have led to where a machine stands, the text with its lines is what is printed and seen at them, and the others go
-- on from there.
pub record HasSeen (observe : Observer) (journal : List Entry) (count : ℕ) (text : List ℕ) (p : MachineView) : Type 0 where
  pub effect : Effect
  pub goes_on : observed_run_from (design_of p.code) observe effect (drop count journal) ≡ observed_run (design_of p.code) observe journal
  pub state_is : effect.state ≡ state_at p
  pub prints : effect.lines ≡ text ++ p.lines
  pub entries : p.core.entries ≡ count

-- How far a journal is told while it is told.
use Rattle.std.specs.Prelude.{◌≡◌, ℕ, ◌+◌, List, ◌++◌, take, slice_get, Option, Some}
use Rattle.std.specs.Io.KnownBytes.{Appends}
use Rattle.journal.specs.Written.{IsWrittenUpTo}
use Rattle.model.specs.declared.entry.Entry.{Entry}
use Rattle.model.specs.Runs.{Effect, run}
use Rattle.regions.specs.Machine.{MachineView, state_at}
use Rattle.replay.specs.declared.fault.ReplayFault.{ReplayFault}
use Rattle.replay.specs.JournalFaults.{IsFaultOf}
use Rattle.explain.specs.declared.telling.ExplanationOptions.{ExplanationOptions}
use Rattle.steps.specs.ExplainerStanding.{Standing, IsExplainerBehind, IsExplained}
use Rattle.explain.specs.ExplainedEnd.{IsEndText}
use Rattle.explain.specs.ExplainedText.{told_design, AreEntryTexts}

-- the entry at a place was taken and told
pub record IsNextTold (journal : List Entry) (at : ℕ) (old new : Standing) : Type 0 where
  pub entry : Entry
  pub there : slice_get journal at ≡ Some entry
  pub told : IsExplained (take at journal) entry old new
  pub behind : IsExplainerBehind (take (at + 1) journal) new
  pub count : new.position.core.entries ≡ at + 1

-- The texts of so many entries are told: what was written grew by them, but for a text that isn't written yet.
pub record AreEntriesSent (t : ExplanationOptions) (journal : List Entry) (at : ℕ) (start now : Option (List ℕ)) (text : List ℕ) : Type 0 where
  pub told : List ℕ
  pub are_told : AreEntryTexts t journal at told
  pub passes : IsWrittenUpTo start now told text

-- so, and an explainer stands behind those entries
pub record IsToldTo (t : ExplanationOptions) (journal : List Entry) (at : ℕ) (x : Standing) (start now : Option (List ℕ)) (text : List ℕ) : Type 0 where
  pub code : x.position.code ≡ t.names.design.now
  pub behind : IsExplainerBehind (take at journal) x
  pub count : x.position.core.entries ≡ at
  pub so_far : AreEntriesSent t journal at start now text

-- a journal has this fault, the entries before it are told, and a machine stands behind them
pub record IsStoppedAt (t : ExplanationOptions) (journal : List Entry) (x : Standing) (start now : Option (List ℕ)) (text : List ℕ) (fault : ReplayFault) : Type 0 where
  pub is_fault : IsFaultOf t.names.design.now journal fault
  pub before : ℕ
  pub number_is : fault.entry ≡ before + 1
  pub effect : Effect
  pub is_run : run (told_design t) (take before journal) ≡ Some effect
  pub state_is : effect.state ≡ state_at x.position
  pub so_far : AreEntriesSent t journal before start now text

-- a text and how the run stands were written
pub record SendsEnd (p : MachineView) (text : List ℕ) (old new : Option (List ℕ)) : Type 0 where
  pub ending : List ℕ
  pub is_ending : IsEndText (state_at p) p.core.entries ending
  pub grown : Appends old new (text ++ ending)

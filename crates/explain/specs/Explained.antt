-- Which fault a journal in words ends with.
use Rattle.std.specs.Prelude.{ℕ, List, Option, Result, Err}
use Rattle.model.specs.declared.entry.Entry.{Entry}
use Rattle.model.specs.Runs.{IsLawful}
use Rattle.design.specs.Compiled.{Compiled, design_of}
use Rattle.journal.specs.declared.fault.ReadFault.{ReadFault}
use Rattle.replay.specs.declared.fault.ReplayFault.{ReplayFault}
use Rattle.replay.specs.ReplayBytes.{IsReadJournal}
use Rattle.replay.specs.JournalFaults.{IsFaultOf}
use Rattle.explain.specs.declared.failure.ExplainFault.{ExplainFault}
use Rattle.explain.specs.declared.failure.ExplainFault.TheVariants.{Read, Replay, CannotWrite, Memory}

-- What was left to read is the text of a journal that is lawful for a design.
pub record IsLawfulJournalText (design : Compiled) (left : Option (List ℕ)) : Type 0 where
  pub journal : List Entry
  pub is_read : IsReadJournal left journal
  pub lawful : IsLawful (design_of design) journal

-- A fault of a replay is one of these entries.
abbrev pub IsFaultOfEntries : Compiled → List Entry → ExplainFault → Type 0
IsFaultOfEntries code entries (Replay fault) = IsFaultOf code entries fault
IsFaultOfEntries code entries fault = Unit {0}

-- a fault that comes once a journal is read
abbrev pub IsOfEntries : ExplainFault → Type 0
IsOfEntries (Read fault) = ⊥
IsOfEntries (Replay fault) = Unit {0}
IsOfEntries CannotWrite = Unit {0}
IsOfEntries Memory = Unit {0}

-- no fault of a journal: a write failed, or memory was refused
abbrev pub IsNoFault : ExplainFault → Type 0
IsNoFault (Read fault) = ⊥
IsNoFault (Replay fault) = ⊥
IsNoFault CannotWrite = Unit {0}
IsNoFault Memory = Unit {0}

-- P of the fault of reading, where one is answered
abbrev pub IfExplainRead : {X : Type 0} → Result X ExplainFault → (ReadFault → Type 0) → Type 0
IfExplainRead (Err (Read fault)) P = P fault
IfExplainRead result P = Unit {0}

-- P of the fault of the journal, where one is answered
abbrev pub IfExplainReplay : {X : Type 0} → Result X ExplainFault → (ReplayFault → Type 0) → Type 0
IfExplainReplay (Err (Replay fault)) P = P fault
IfExplainReplay result P = Unit {0}

-- P, where the answer is a fault of reading
abbrev pub UnlessExplainBegun : {X : Type 0} → Result X ExplainFault → Type 0 → Type 0
UnlessExplainBegun (Err (Read fault)) P = P
UnlessExplainBegun result P = Unit {0}

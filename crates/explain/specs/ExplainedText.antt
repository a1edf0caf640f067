-- The text of a journal in words.
use Rattle.std.specs.Prelude.{◌≡◌, ℕ, zero, suc, ◌+◌, ◌&&◌, Bool, true, false, nat_le, List, [], ◌++◌, length, take, slice_get, unwrap_or, Option, Some}
use Rattle.std.specs.Io.KnownBytes.{Appends}
use Rattle.model.specs.declared.entry.Entry.{Entry}
use Rattle.model.specs.Design.{Design}
use Rattle.model.specs.Runs.{Effect, run}
use Rattle.design.specs.Compiled.{Compiled, design_of}
use Rattle.locations.specs.declared.location.ProcessLocation.{ProcessLocation}
use Rattle.replay.specs.declared.fault.ReplayFault.{ReplayFault}
use Rattle.replay.specs.ReplayBytes.{IsReadJournal}
use Rattle.replay.specs.JournalFaults.{IsFaultOf}
use Rattle.explain.specs.declared.telling.ExplanationOptions.{ExplanationOptions}
use Rattle.explain.specs.declared.phrases.EntryStyle.{EntryStyle}
use Rattle.explain.specs.declared.telling.Presentation.{Presentation}
use Rattle.steps.specs.Accounts.{Account, IsAccountOf}
use Rattle.explain.specs.EntryLines.{entry_account_text}
use Rattle.explain.specs.Wanted.{is_wanted, wanted_registers}
use Rattle.explain.specs.ExplainedEnd.{IsEndText, refusal_text}

-- the design that is told
abbrev pub told_design : ExplanationOptions → Design
told_design t = design_of t.names.design.now

-- how a journal is told: from this entry on, to this one or the last that there may be, so by their times, in this style
abbrev pub presentation_of : ℕ → Option ℕ → ℕ → Option ℕ → EntryStyle → Presentation
presentation_of from to from_time to_time style = record {
  from = from;
  to = unwrap_or to 18446744073709551615;
  from_time = from_time;
  to_time = unwrap_or to_time 18446744073709551615;
  style = style;
}

-- whether a presentation has an entry with this number
abbrev pub shows_number : Presentation → ℕ → Bool
shows_number presentation number = nat_le presentation.from number && nat_le number presentation.to

-- whether it has entries of this time
abbrev pub shows_time : Presentation → ℕ → Bool
shows_time presentation time = nat_le presentation.from_time time && nat_le time presentation.to_time

-- whether it has an entry with this number, behind which it is this time
abbrev pub has_entry : Presentation → ℕ → ℕ → Bool
has_entry presentation number time = shows_number presentation number && shows_time presentation time

-- a line, where it is shown
abbrev pub shown_text : Bool → List ℕ → List ℕ
shown_text true line = line
shown_text false line = []

-- whether an entry with this number is told: the presentation has it, by its number and its time, and it has to do with the registers that are asked for, if any are
abbrev pub is_told : ExplanationOptions → ℕ → Account → Bool
is_told t number a = has_entry t.presentation number a.time && is_wanted (wanted_registers t.registers) a

-- the line of an entry, where it is told
abbrev pub told_text : ExplanationOptions → ℕ → Entry → Account → Bool → List ℕ
told_text t number entry a finishes = shown_text (is_told t number a) (entry_account_text t.names number entry a finishes)

-- This is told of the entry at a place of a journal: by what comes of its step behind those before it.
pub record IsExplainedEntry (t : ExplanationOptions) (journal : List Entry) (at : ℕ) (text : List ℕ) : Type 0 where
  pub entry : Entry
  pub there : slice_get journal at ≡ Some entry
  pub before : Effect
  pub is_run : run (told_design t) (take at journal) ≡ Some before
  pub effect : Effect
  pub account : Account
  pub told : IsAccountOf (told_design t) before entry effect account
  pub text_is : text ≡ told_text t (at + 1) entry account effect.state.finished

-- These are the texts of so many entries of a journal, one after another.
abbrev pub AreEntryTexts : ExplanationOptions → List Entry → ℕ → List ℕ → Type 0
AreEntryTexts t journal zero text = text ≡ []
AreEntryTexts t journal (suc n) text =
    (old : List ℕ) × (line : List ℕ) × AreEntryTexts t journal n old × IsExplainedEntry t journal n line × (text ≡ old ++ line)

-- A lawful journal was told to its end: what was written grew by the lines of its entries, and by how the run stands.
pub record TellsAll (t : ExplanationOptions) (journal : List Entry) (old new : Option (List ℕ)) : Type 0 where
  pub effect : Effect
  pub is_run : run (told_design t) journal ≡ Some effect
  pub lines : List ℕ
  pub are_lines : AreEntryTexts t journal (length journal) lines
  pub ending : List ℕ
  pub is_ending : IsEndText effect.state (length journal) ending
  pub grown : Appends old new (lines ++ ending)

-- A journal was told up to its fault: what was written grew by the lines of the entries before it, and by why it isn't taken.
pub record TellsFault (t : ExplanationOptions) (journal : List Entry) (old new : Option (List ℕ)) (fault : ReplayFault) : Type 0 where
  pub is_fault : IsFaultOf t.names.design.now journal fault
  pub before : ℕ
  pub number_is : fault.entry ≡ before + 1
  pub effect : Effect
  pub is_run : run (told_design t) (take before journal) ≡ Some effect
  pub lines : List ℕ
  pub are_lines : AreEntryTexts t journal before lines
  pub grown : Appends old new (lines ++ refusal_text t.names effect.state fault)

-- what is told is of this design, by its processes, of these registers alone, if any are asked for, and of this presentation
pub record IsTelling (processes : List ProcessLocation) (code : Compiled) (registers : Option (List ℕ)) (presentation : Presentation) (t : ExplanationOptions) : Type 0 where
  pub design_is : t.names.design.now ≡ code
  pub processes_are : t.names.processes.now ≡ processes
  pub registers_are : wanted_registers t.registers ≡ registers
  pub presentation_is : t.presentation ≡ presentation
  pub style_is : t.names.style ≡ presentation.style

-- so a journal was told to its end
pub record Explains (processes : List ProcessLocation) (code : Compiled) (registers : Option (List ℕ)) (presentation : Presentation) (journal : List Entry) (old new : Option (List ℕ)) : Type 0 where
  pub telling : ExplanationOptions
  pub is_telling : IsTelling processes code registers presentation telling
  pub tells : TellsAll telling journal old new

-- so it was told up to its fault
pub record ExplainsFault (processes : List ProcessLocation) (code : Compiled) (registers : Option (List ℕ)) (presentation : Presentation) (journal : List Entry) (old new : Option (List ℕ)) (fault : ReplayFault) : Type 0 where
  pub telling : ExplanationOptions
  pub is_telling : IsTelling processes code registers presentation telling
  pub tells : TellsFault telling journal old new fault

-- the journal that was left to read was told to its end, on this design
pub record ExplainsText (processes : List ProcessLocation) (design : Compiled) (registers : Option (List ℕ)) (presentation : Presentation) (left old new : Option (List ℕ)) : Type 0 where
  pub journal : List Entry
  pub is_read : IsReadJournal left journal
  pub explains : Explains processes design registers presentation journal old new

-- the journal that was left to read was told up to its fault, on this design
pub record ExplainsTextFault (processes : List ProcessLocation) (design : Compiled) (registers : Option (List ℕ)) (presentation : Presentation) (left old new : Option (List ℕ)) (fault : ReplayFault) : Type 0 where
  pub journal : List Entry
  pub is_read : IsReadJournal left journal
  pub explains : ExplainsFault processes design registers presentation journal old new fault

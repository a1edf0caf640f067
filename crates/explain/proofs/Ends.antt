-- Which fault a call ends with that reads no journal.
use Rattle.std.proofs.Common.{◌≡◌, subst, refl, sym, ap, ◌∙◌, ℕ, List, Option, Some, Result, Ok, Err, OnOk, IfErr}
use Rattle.std.specs.Prelude.{IsSome}
use Rattle.model.specs.declared.entry.Entry.{Entry}
use Rattle.model.specs.Runs.{Effect, run, IsLawful}
use Rattle.design.specs.Compiled.{Compiled, design_of}
use Rattle.journal.specs.declared.fault.ReadFault.{ReadFault}
use Rattle.replay.specs.declared.fault.ReplayFault.{ReplayFault}
use Rattle.replay.specs.JournalFaults.{IsFaultOf}
use Rattle.locations.specs.declared.location.ProcessLocation.{ProcessLocation}
use Rattle.replay.specs.ReplayBytes.{IsJournalFault, IsReadJournal}
use Rattle.explain.specs.declared.failure.ExplainFault.{ExplainFault}
use Rattle.explain.specs.declared.failure.ExplainFault.TheVariants.{Read, Replay, CannotWrite, Memory}
use Rattle.explain.specs.declared.telling.Presentation.{Presentation}
use Rattle.explain.specs.declared.telling.ExplanationOptions.{ExplanationOptions}
use Rattle.explain.specs.ExplainedText.{TellsAll, TellsFault, IsTelling, Explains, ExplainsFault, ExplainsText, ExplainsTextFault}
use Rattle.explain.specs.Explained.{IsLawfulJournalText, IsOfEntries, IsNoFault, IfExplainRead, IfExplainReplay, UnlessExplainBegun}

-- want of memory and a failed write are no fault of a journal
pub no_replay : (fault : ExplainFault) (P : ReplayFault → Type 0) → IsNoFault fault → IfExplainReplay {X = Unit {0}} (Err fault) P
no_replay (Read f) P is = tt
no_replay (Replay f) P is = absurd is
no_replay CannotWrite P is = tt
no_replay Memory P is = tt

pub no_replay_if : {X : Type 0} (r : Result X ExplainFault) (P : ReplayFault → Type 0) → IfErr r IsNoFault → IfExplainReplay r P
no_replay_if (Ok x) P is = tt
no_replay_if (Err fault) P is = no_replay fault P is

-- nor is any other fault that is none
pub no_replay_but : (fault other : ExplainFault) (P : ReplayFault → Type 0) → fault ≡ other → ((f : ReplayFault) → fault ≡ Replay f → ⊥) → IfExplainReplay {X = Unit {0}} (Err other) P
no_replay_but fault (Read f) P same other_than = tt
no_replay_but fault (Replay f) P same other_than = absurd (other_than f same)
no_replay_but fault CannotWrite P same other_than = tt
no_replay_but fault Memory P same other_than = tt

-- and they come once a journal is read
pub of_entries : (fault : ExplainFault) → IsNoFault fault → IsOfEntries fault
of_entries (Read f) is = absurd is
of_entries (Replay f) is = tt
of_entries CannotWrite is = tt
of_entries Memory is = tt

pub of_entries_if : {X : Type 0} (r : Result X ExplainFault) → IfErr r IsNoFault → IfErr r IsOfEntries
of_entries_if (Ok x) is = tt
of_entries_if (Err fault) is = of_entries fault is

-- once a journal is read, it has no fault
pub no_read_if : {X : Type 0} (r : Result X ExplainFault) (P : ReadFault → Type 0) → IfErr r IsOfEntries → IfExplainRead r P
no_read_if (Ok x) P is = tt
no_read_if (Err (Read f)) P is = absurd is
no_read_if (Err (Replay f)) P is = tt
no_read_if (Err CannotWrite) P is = tt
no_read_if (Err Memory) P is = tt

pub begun_if : {X : Type 0} (r : Result X ExplainFault) (P : Type 0) → IfErr r IsOfEntries → UnlessExplainBegun r P
begun_if (Ok x) P is = tt
begun_if (Err (Read f)) P is = absurd is
begun_if (Err (Replay f)) P is = tt
begun_if (Err CannotWrite) P is = tt
begun_if (Err Memory) P is = tt

-- by these names and this presentation
pub explains_if : {X E : Type 0} (r : Result X E) (processes : List ProcessLocation) (code : Compiled) (registers : Option (List ℕ)) (presentation : Presentation) (journal : List Entry) (old new : Option (List ℕ)) (t : ExplanationOptions)
    → IsTelling processes code registers presentation t → OnOk r (TellsAll t journal old new) → OnOk r (Explains processes code registers presentation journal old new)
explains_if (Ok u) processes code registers presentation journal old new t is tells = record { telling = t; is_telling = is; tells = tells }
explains_if (Err e) processes code registers presentation journal old new t is tells = tt

pub explains_fault_if : {X : Type 0} (r : Result X ExplainFault) (processes : List ProcessLocation) (code : Compiled) (registers : Option (List ℕ)) (presentation : Presentation) (journal : List Entry) (old new : Option (List ℕ)) (t : ExplanationOptions)
    → IsTelling processes code registers presentation t → IfExplainReplay r (TellsFault t journal old new) → IfExplainReplay r (ExplainsFault processes code registers presentation journal old new)
explains_fault_if (Ok u) processes code registers presentation journal old new t is tells = tt
explains_fault_if (Err (Read f)) processes code registers presentation journal old new t is tells = tt
explains_fault_if (Err (Replay f)) processes code registers presentation journal old new t is tells = record { telling = t; is_telling = is; tells = tells }
explains_fault_if (Err CannotWrite) processes code registers presentation journal old new t is tells = tt
explains_fault_if (Err Memory) processes code registers presentation journal old new t is tells = tt

-- of what was read
pub text_if : {X E : Type 0} (r : Result X E) (processes : List ProcessLocation) (code : Compiled) (registers : Option (List ℕ)) (presentation : Presentation) (journal : List Entry) (left old new : Option (List ℕ))
    → IsReadJournal left journal → OnOk r (Explains processes code registers presentation journal old new) → OnOk r (ExplainsText processes code registers presentation left old new)
text_if (Ok u) processes code registers presentation journal left old new read explains = record { journal = journal; is_read = read; explains = explains }
text_if (Err e) processes code registers presentation journal left old new read explains = tt

pub text_fault_if : {X : Type 0} (r : Result X ExplainFault) (processes : List ProcessLocation) (code : Compiled) (registers : Option (List ℕ)) (presentation : Presentation) (journal : List Entry) (left old new : Option (List ℕ))
    → IsReadJournal left journal → IfExplainReplay r (ExplainsFault processes code registers presentation journal old new) → IfExplainReplay r (ExplainsTextFault processes code registers presentation left old new)
text_fault_if (Ok u) processes code registers presentation journal left old new read explains = tt
text_fault_if (Err (Read f)) processes code registers presentation journal left old new read explains = tt
text_fault_if (Err (Replay f)) processes code registers presentation journal left old new read explains = record { journal = journal; is_read = read; explains = explains }
text_fault_if (Err CannotWrite) processes code registers presentation journal left old new read explains = tt
text_fault_if (Err Memory) processes code registers presentation journal left old new read explains = tt

-- a journal that is told to its end is lawful
lawful : (code : Compiled) (journal : List Entry) (e : Effect) → run (design_of code) journal ≡ Some e → IsLawful (design_of code) journal
lawful code journal e ran = subst (λ (o : Option Effect). IsSome o) (sym ran) refl

pub lawful_if : {X E : Type 0} (r : Result X E) (processes : List ProcessLocation) (code : Compiled) (registers : Option (List ℕ)) (presentation : Presentation) (journal : List Entry) (left old new : Option (List ℕ))
    → IsReadJournal left journal → OnOk r (Explains processes code registers presentation journal old new) → OnOk r (IsLawfulJournalText code left)
lawful_if (Ok u) processes code registers presentation journal left old new read explains = record {
  journal = journal;
  is_read = read;
  lawful = lawful code journal explains.tells.effect
      (ap (λ (c : Compiled). run (design_of c) journal) (sym explains.is_telling.design_is) ∙ explains.tells.is_run);
}
lawful_if (Err e) processes code registers presentation journal left old new read explains = tt

-- a fault that is told is one of the journal
pub replay_if : {X : Type 0} (r : Result X ExplainFault) (processes : List ProcessLocation) (code : Compiled) (registers : Option (List ℕ)) (presentation : Presentation) (journal : List Entry) (left old new : Option (List ℕ))
    → IsReadJournal left journal → IfExplainReplay r (ExplainsFault processes code registers presentation journal old new) → IfExplainReplay r (IsJournalFault code left)
replay_if (Ok u) processes code registers presentation journal left old new read explains = tt
replay_if (Err (Read f)) processes code registers presentation journal left old new read explains = tt
replay_if (Err (Replay f)) processes code registers presentation journal left old new read explains = record {
  journal = journal;
  is_read = read;
  is_fault = subst (λ (c : Compiled). IsFaultOf c journal f) explains.is_telling.design_is explains.tells.is_fault;
}
replay_if (Err CannotWrite) processes code registers presentation journal left old new read explains = tt
replay_if (Err Memory) processes code registers presentation journal left old new read explains = tt

-- What is found of a loose run: a lawful journal of its text and its end.
use Rattle.std.specs.Prelude.{ℕ, ◌≤◌, List, length}
use Rattle.model.specs.declared.entry.Entry.{Entry}
use Rattle.model.specs.declared.end.Limits.{Limits}
use Rattle.model.specs.declared.end.End.{End}
use Rattle.model.specs.Texts.{IsLawfulText}
use Rattle.design.specs.Compiled.{Compiled, design_of}
use Rattle.looseruns.specs.ObservedJournals.{Observer, SeenEnd, IsObservedText}
use Rattle.loosejournals.specs.declared.observed.SeenJournal.{SeenJournal}

-- The text and the end are those of this lawful journal, which has no more entries than the limits give.
pub record IsJournalOf (code : Compiled) (limits : Limits) (text : List ℕ) (end : End) (journal : List Entry) : Type 0 where
  pub lawful : IsLawfulText (design_of code) limits journal text end
  pub few : length journal ≤ limits.max_entries

-- The text and the end are the observed ones of this lawful journal, which has no more entries than the limits give.
pub record IsObservedJournalOf (code : Compiled) (limits : Limits) (observe : Observer) (text : List ℕ) (end : SeenEnd) (journal : List Entry) : Type 0 where
  pub lawful : IsObservedText (design_of code) limits observe journal text end
  pub few : length journal ≤ limits.max_entries

-- the text and the end beside a journal are its observed ones, and it is lawful and has no more entries than the limits give
abbrev pub IsSeenJournal : Compiled → Limits → Observer → SeenJournal → Type 0
IsSeenJournal code limits observe found = IsObservedJournalOf code limits observe found.text.items found.end found.journal.items

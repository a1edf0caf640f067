-- What the program leaves in files, where that is known.
use Rattle.std.specs.Prelude.{◌≡◌, ℕ, Bool, true, false, List, [], ◌∷◌, ◌++◌, suc, ⊤, Option, Some, None, IfSome, codes, decimal, take}
use Rattle.model.specs.declared.entry.Entry.{Entry}
use Rattle.model.specs.declared.entry.JournalVersion.TheVariants.{Two}
use Rattle.model.specs.Journal.{journal_text}

-- the bytes that files hold at their paths are known still, and are the same
abbrev pub KeepsHeld : Option (List ℕ → List ℕ) → Option (List ℕ → List ℕ) → Type 0
KeepsHeld old new = IfSome old (λ holds. new ≡ Some holds)

-- where it is known what files hold, these are the bytes at this path
abbrev pub IsHeld : Option (List ℕ → List ℕ) → List ℕ → List ℕ → Type 0
IsHeld known path bytes = IfSome known (λ holds. bytes ≡ holds path)

-- where it is known what files hold, a reader will give the bytes at this path
abbrev pub IsOpened : Option (List ℕ → List ℕ) → List ℕ → Option (List ℕ) → Type 0
IsOpened known path remaining = IfSome known (λ holds. remaining ≡ Some (holds path))

-- a file that was made and put into its place: its path, and its bytes
pub record MadeFile : Type 0 where
  pub path : List ℕ
  pub bytes : List ℕ

-- the known files are still the same
abbrev pub KeepsFiles : Option (List MadeFile) → Option (List MadeFile) → Type 0
KeepsFiles old new = IfSome old (λ files. new ≡ Some files)

-- the known files grew by this one
abbrev pub AddsFile : Option (List MadeFile) → Option (List MadeFile) → MadeFile → Type 0
AddsFile old new file = IfSome old (λ files. new ≡ Some (files ++ file ∷ []))

-- where the files are known, so is what a file holds that was just begun: nothing
abbrev pub HoldsNothing : Option (List MadeFile) → Option (List ℕ) → Type 0
HoldsNothing known contents = IfSome known (λ files. contents ≡ Some [])

-- so it is of what was begun, where something was
abbrev pub AreEmpty : Option (List MadeFile) → Option (Option (List ℕ)) → Type 0
AreEmpty known None = ⊤
AreEmpty known (Some contents) = HoldsNothing known contents

-- where it is known which paths lead to one file, an OUT that is given doesn't lead to this source
abbrev pub LeadsElsewhere : Option (List ℕ → List ℕ → Bool) → List ℕ → Option (List ℕ) → Type 0
LeadsElsewhere known source None = ⊤
LeadsElsewhere known source (Some out) = IfSome known (λ alike. alike source out ≡ false)

-- an OUT is given, and where it is known which paths lead to one file, it leads to this source
abbrev pub LeadsThere : Option (List ℕ → List ℕ → Bool) → List ℕ → Option (List ℕ) → Type 0
LeadsThere known source None = ⊥
LeadsThere known source (Some out) = IfSome known (λ alike. alike source out ≡ true)

-- a file was put at this path, which holds these bytes where they are known
abbrev pub ClosesFile : Option (List MadeFile) → Option (List MadeFile) → List ℕ → Option (List ℕ) → Type 0
ClosesFile old new path contents = IfSome contents (λ bytes. AddsFile old new (record {
  path = path;
  bytes = bytes;
}))

-- a file at this path holds the text of this journal, and no other file was made
abbrev pub SavesJournal : Option (List MadeFile) → Option (List MadeFile) → List ℕ → List Entry → Type 0
SavesJournal old new path entries = AddsFile old new (record {
  path = path;
  bytes = journal_text Two entries;
})

-- so it is where a path is given, and else no file was made
abbrev pub SavesWhereAsked : Option (List MadeFile) → Option (List MadeFile) → Option (List ℕ) → List Entry → Type 0
SavesWhereAsked old new None entries = KeepsFiles old new
SavesWhereAsked old new (Some path) entries = SavesJournal old new path entries

-- the known files grew by these
abbrev pub AddsFiles : Option (List MadeFile) → Option (List MadeFile) → List MadeFile → Type 0
AddsFiles old new added = IfSome old (λ files. new ≡ Some (files ++ added))

-- the path of a journal with a number: PREFIX.1.journal and so on
abbrev pub journal_path : List ℕ → ℕ → List ℕ
journal_path prefix number = prefix ++ codes "." ++ decimal number ++ codes ".journal"

-- files at such paths, from this number on, hold the texts of these journals
abbrev pub journals_from : List ℕ → ℕ → List (List Entry) → List MadeFile
journals_from prefix number [] = []
journals_from prefix number (entries ∷ others) =
    record { path = journal_path prefix number; bytes = journal_text Two entries } ∷ journals_from prefix (suc number) others

-- so it is from 1 on where a prefix is given, and else no file was made
abbrev pub SavesAllWhereAsked : Option (List MadeFile) → Option (List MadeFile) → Option (List ℕ) → List (List Entry) → Type 0
SavesAllWhereAsked old new None journals = KeepsFiles old new
SavesAllWhereAsked old new (Some prefix) journals = AddsFiles old new (journals_from prefix 1 journals)

-- so it is of so many of the first journals
abbrev pub SavesFirstWhereAsked : Option (List MadeFile) → Option (List MadeFile) → Option (List ℕ) → ℕ → List (List Entry) → Type 0
SavesFirstWhereAsked old new None count journals = KeepsFiles old new
SavesFirstWhereAsked old new (Some prefix) count journals = AddsFiles old new (journals_from prefix 1 (take count journals))

-- the known files grew by a beginning of such journals
abbrev pub AddsBeginning : Option (List MadeFile) → Option (List MadeFile) → List ℕ → List (List Entry) → Type 0
AddsBeginning old new prefix journals = (count : ℕ) × AddsFiles old new (journals_from prefix 1 (take count journals))

-- so it is where a prefix is given, and else no file was made
abbrev pub SavesSomeWhereAsked : Option (List MadeFile) → Option (List MadeFile) → Option (List ℕ) → List (List Entry) → Type 0
SavesSomeWhereAsked old new None journals = KeepsFiles old new
SavesSomeWhereAsked old new (Some prefix) journals = AddsBeginning old new prefix journals

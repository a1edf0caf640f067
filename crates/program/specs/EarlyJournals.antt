-- Journals that are saved before a search.
use Rattle.std.specs.Prelude.{ℕ, List, Option, Some, None}
use Rattle.model.specs.declared.entry.Entry.{Entry}
use Rattle.files.specs.declared.fault.FileFault.{FileFault}
use Rattle.files.specs.Saved.{MadeFile, SavesFirstWhereAsked, SavesSomeWhereAsked}

-- So many of the first journals were saved where a prefix is given, or, where there is this fault, a beginning of them.
abbrev pub AreSavedEarly : Option (List MadeFile) → Option (List MadeFile) → Option (List ℕ) → ℕ → List (List Entry) → Option FileFault → Type 0
AreSavedEarly old new prefix count journals None = SavesFirstWhereAsked old new prefix count journals
AreSavedEarly old new prefix count journals (Some fault) = SavesSomeWhereAsked old new prefix journals

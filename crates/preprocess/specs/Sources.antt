-- Where the files come from whose texts are read: they are given, or they are included and known (IEEE 1364-2005, 19.5).
use Rattle.std.specs.Prelude.{◌≡◌, ℕ, ◌⊎◌, List, [], ◌∷◌, ◌++◌, take, All, Option, Some, None, option_map, codes, string_bytes}
use Rattle.std.specs.List.{Contains}
use Rattle.std.specs.Borrow.{Bor}
use Rattle.lexemes.specs.declared.token.SourceFile.{SourceFile}
use Rattle.preprocess.specs.declared.includes.KnownFile.{KnownFile}
use Rattle.preprocess.specs.declared.includes.Lookup.{Lookup}
use Rattle.preprocess.specs.declared.includes.Lookup.TheVariants as lookups
use Rattle.preprocess.specs.declared.preprocess.Definition.{Definition}

-- A copy of a file has its name and its text.
pub record IsFileCopy (file copy : SourceFile) : Type 0 where
  pub same_name : string_bytes copy.name ≡ string_bytes file.name
  pub same_text : copy.text.items ≡ file.text.items

-- A file has the path and the text of one that is known.
pub record IsKnownAs (found : KnownFile) (file : SourceFile) : Type 0 where
  pub same_path : string_bytes file.name ≡ string_bytes found.path
  pub known_text : option_map (λ text. text.items) found.text ≡ Some file.text.items

-- A file that is included is one of those that are known.
pub record IsIncluded (known : List KnownFile) (file : SourceFile) : Type 0 where
  pub found : KnownFile
  pub is_among : Contains known found
  pub known_as : IsKnownAs found file

-- A file that is found is one of those that are known.
abbrev pub FindsKnown : List KnownFile → Lookup → Type 0
FindsKnown known (lookups.Found file) = IsIncluded known file
FindsKnown known lookups.Missing = Unit {0}
FindsKnown known (lookups.Unknown path) = Unit {0}

-- There are more files, which are included.
pub record AddsIncluded (known : List KnownFile) (old new : List SourceFile) : Type 0 where
  pub more : List SourceFile
  pub are_behind : new ≡ old ++ more
  pub are_included : All (IsIncluded known) more

-- There is one file more, or none.
abbrev pub MayAdd : SourceFile → List SourceFile → List SourceFile → Type 0
MayAdd file old new = (new ≡ old) ⊎ (new ≡ old ++ file ∷ [])

-- There is a file more, and behind it those that are included.
abbrev pub AddsSourceFile : List KnownFile → SourceFile → List SourceFile → List SourceFile → Type 0
AddsSourceFile known file old new = AddsIncluded known (old ++ file ∷ []) new

-- There is a copy of a file more, and behind it those that are included.
pub record AddsCopy (known : List KnownFile) (file : SourceFile) (old new : List SourceFile) : Type 0 where
  pub copy : SourceFile
  pub is_copy : IsFileCopy file copy
  pub adds_copy : AddsSourceFile known copy old new

-- Files are read one after another: there is a copy of each, and behind it those that are included while it is read.
pub data AreFilesRead (known : List KnownFile) : List SourceFile → List SourceFile → Type 0 where
  none_read : AreFilesRead known [] []
  one_read : {files old new : List SourceFile} {file : SourceFile} → AreFilesRead known files old → AddsCopy known file old new → AreFilesRead known (files ++ file ∷ []) new

-- The text that a macro is given: 1 where none is.
abbrev pub text_given : Option (Bor (List ℕ)) → List ℕ
text_given None = codes "1"
text_given (Some text) = text.now

-- A line that defines a macro as it is given.
abbrev pub definition_line : Definition → List ℕ
definition_line it = codes "`define " ++ (it.name.now ++ (codes " " ++ (text_given it.text ++ codes "\n")))

abbrev pub definition_lines : List Definition → List ℕ
definition_lines [] = []
definition_lines (it ∷ others) = definition_line it ++ definition_lines others

-- The file of the definitions that are given.
pub record IsCommandLine (definitions : List Definition) (file : SourceFile) : Type 0 where
  pub is_named : string_bytes file.name ≡ codes "<command line>"
  pub has_lines : file.text.items ≡ definition_lines definitions

-- The definitions that are given are read, and then so many of the files.
pub record AreFilesOf (definitions : List Definition) (files : List SourceFile) (known : List KnownFile) (count : ℕ) (found : List SourceFile) : Type 0 where
  pub command : SourceFile
  pub is_command : IsCommandLine definitions command
  pub are_read : AreFilesRead known (command ∷ take count files) found

-- The same of as many as were read up to a fault: none, or the definitions and some of the files.
abbrev pub AreSomeFilesOf : List Definition → List SourceFile → List KnownFile → List SourceFile → Type 0
AreSomeFilesOf definitions files known found = (found ≡ []) ⊎ ((count : ℕ) × AreFilesOf definitions files known count found)

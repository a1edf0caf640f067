-- The parts of the lines: names and quoted text.
use Rattle.std.specs.Prelude.{ℕ, ◌==◌, Bool, true, false, if◌then◌else◌, List, [], ◌∷◌, ◌++◌, slice_get, Option, Some, None, codes, decimal, string_bytes}
use Rattle.model.specs.Syntax.{Text}
use Rattle.locations.specs.declared.location.ProcessLocation.{ProcessLocation}
use Rattle.explain.specs.declared.phrases.SourceNames.{SourceNames}

-- a byte of a printed text as it stands in a string (3.6)
abbrev pub escaped : ℕ → List ℕ
escaped byte =
    if byte == 10 then codes "\\n"
    else (if byte == 9 then codes "\\t" else (if byte == 92 then codes "\\\\" else (if byte == 34 then codes "\\\"" else byte ∷ [])))

-- so all of its bytes
abbrev pub escaped_text : List ℕ → List ℕ
escaped_text [] = []
escaped_text (byte ∷ bytes) = escaped byte ++ escaped_text bytes

-- a printed text between quotation marks
abbrev pub quoted_text : List ℕ → List ℕ
quoted_text printed = codes "\"" ++ escaped_text printed ++ codes "\""

-- a name, where there is one
abbrev pub known_name : Option Text → List ℕ
known_name (Some name) = name
known_name None = []

-- the name of a register
abbrev pub register_text : SourceNames → ℕ → List ℕ
register_text names r = known_name (slice_get names.design.now.names r)

-- the word that a process begins with
abbrev pub word_text : Bool → List ℕ
word_text true = codes "always"
word_text false = codes "initial"

-- the word of a process, and where it stands, where they are known
abbrev pub location_text : Option ProcessLocation → List ℕ
location_text (Some process) = codes ", " ++ word_text process.always ++ codes " at " ++ string_bytes process.at
location_text None = []

-- a process: its number, its word and where it stands
abbrev pub process_text : SourceNames → ℕ → List ℕ
process_text names p = codes "process " ++ decimal p ++ location_text (slice_get names.processes.now p)

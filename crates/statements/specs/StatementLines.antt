-- In which lines a process does something.
use Rattle.std.specs.Prelude.{ℕ, ◌+◌, ◌==◌, List, [], ◌∷◌, Bool, true, ◌&&◌, if◌then◌else◌, Option, Some, None}
use Rattle.std.specs.Str.{bytes_eq}
use Rattle.locations.specs.SourceLocations.{location_of}
use Rattle.statements.specs.declared.lines.LineRange.{LineRange}
use Rattle.statements.specs.declared.part.StatementPart.{StatementPart}
use Rattle.statements.specs.Parts.{same_part}
use Rattle.statements.specs.StatementTokens.{PlainStatementToken}

-- The line of a byte, counted from 1.
abbrev pub line_of_byte : List ℕ → ℕ → ℕ
line_of_byte source byte = (location_of source byte).line

-- A token is spelled so, or in any way where no name is given.
abbrev pub is_spelled : Option (List ℕ) → List ℕ → Bool
is_spelled (Some name) text = bytes_eq text name
is_spelled None text = true

-- A token does this, of a process that is counted from 0, and has this name, if one is given.
abbrev pub is_sought : StatementPart → ℕ → Option (List ℕ) → PlainStatementToken → Bool
is_sought part process name t = (same_part t.part part && t.process == process + 1) && is_spelled name t.text

-- The first byte of the last of some tokens, and this byte where there are none.
abbrev pub last_byte : ℕ → List PlainStatementToken → ℕ
last_byte byte [] = byte
last_byte byte (t ∷ ts) = last_byte t.byte ts

-- The lines of the first and of the last of some tokens, if there are some.
abbrev pub lines_of_tokens : List ℕ → List PlainStatementToken → Option LineRange
lines_of_tokens source [] = None
lines_of_tokens source (t ∷ ts) = Some (record { first = line_of_byte source t.byte; last = line_of_byte source (last_byte t.byte ts) })

-- The first byte of a token that does this, and none of another.
abbrev pub sought_byte : StatementPart → ℕ → Option (List ℕ) → PlainStatementToken → List ℕ
sought_byte part process name t = if is_sought part process name t then t.byte ∷ [] else []

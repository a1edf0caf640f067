-- Where lexemes stand, and what a fault of a cut tells.
use Rattle.std.specs.Prelude.{ℕ, ◌+◌, ◌≡◌, ◌<◌, ◌≤◌, List, false}
use Rattle.lexemes.specs.declared.token.FileSpan.{FileSpan}
use Rattle.lexemes.specs.declared.token.VerilogLexeme.{VerilogLexeme}
use Rattle.lexemes.specs.declared.cut.LexicalFault.{LexicalFault}
use Rattle.lexemes.specs.declared.cut.LexicalFault.TheVariants as f
use Rattle.lexemes.specs.Lexing.{LexicalCause, stray, unfinished_string, unfinished_comment, StopsCut}

-- A span is of a file, holds a byte at least, and lies in so many bytes.
pub record SpanIn (of within : ℕ) (place : FileSpan) : Type 0 where
  pub same_file : place.file ≡ of
  pub some : 0 < place.length
  pub ends : place.begin + place.length ≤ within

-- A lexeme lies in so many bytes of a file.
abbrev pub LiesIn : ℕ → ℕ → VerilogLexeme → Type 0
LiesIn file within lexeme = SpanIn file within lexeme.span

-- The fault that tells why a cut stops, and where.
abbrev pub lexical_fault : LexicalCause → ℕ → LexicalFault
lexical_fault stray place = f.Stray place
lexical_fault unfinished_string place = f.UnfinishedString place
lexical_fault unfinished_comment place = f.UnfinishedComment place

-- What a fault tells of a text: where its cut stops, and why.
abbrev pub TellsStop : List ℕ → LexicalFault → Type 0
TellsStop text f.Memory = Unit {0}
TellsStop text (f.Stray place) = StopsCut false text stray place
TellsStop text (f.UnfinishedString place) = StopsCut false text unfinished_string place
TellsStop text (f.UnfinishedComment place) = StopsCut false text unfinished_comment place

-- Where spans stand: which bytes of which text.
use Rattle.std.specs.Prelude.{ℕ, ◌+◌, List, map, length, get_or, Bool, true, ◌&&◌, nat_lt, nat_le, Option, Some, None}
use Rattle.lexemes.specs.declared.token.FileSpan.{FileSpan}
use Rattle.lexemes.specs.declared.token.VerilogLexeme.{VerilogLexeme}
use Rattle.lexemes.specs.declared.token.SourceFile.{SourceFile}
use Rattle.lexemes.specs.declared.token.VerilogToken.{VerilogToken}
use Rattle.lexemes.specs.declared.cut.LexicalFault.{LexicalFault}
use Rattle.lexemes.specs.declared.cut.LexicalFault.TheVariants as cuts
use Rattle.preprocess.specs.declared.fault.TextFaultKind.TheVariants as kinds
use Rattle.preprocess.specs.declared.fault.Fault.{Fault}
use Rattle.preprocess.specs.declared.fault.Fault.TheVariants as faults
use Rattle.preprocess.specs.declared.work.Origin.{Origin}
use Rattle.preprocess.specs.declared.work.PendingPiece.{PendingPiece}
use Rattle.preprocess.specs.declared.work.BodyPiece.{BodyPiece}
use Rattle.preprocess.specs.declared.work.Condition.{Condition}

-- The lengths of the texts of files.
abbrev pub lengths_of : List SourceFile → List ℕ
lengths_of files = map (λ f. length f.text.items) files

-- A span holds a byte at least, and ends in its file, by the files of the texts.
unfoldable pub stands : List SourceFile → FileSpan → Bool
stands files place = nat_lt 0 place.length && nat_le (place.begin + place.length) (get_or (lengths_of files) place.file 0)

-- A span stands, if there is one.
abbrev pub stands_if_some : List SourceFile → Option FileSpan → Bool
stands_if_some files None = true
stands_if_some files (Some place) = stands files place

-- The place of the use from which a piece comes stands, if it comes from one.
abbrev pub origin_stands : List SourceFile → Option Origin → Bool
origin_stands files None = true
origin_stands files (Some origin) = stands files origin.place

-- A piece that is to be read stands, and so does the use from which it comes.
unfoldable pub piece_stands : List SourceFile → PendingPiece → Bool
piece_stands files piece = stands files piece.lexeme.span && origin_stands files piece.origin

-- A piece of the text of a macro stands.
abbrev pub body_stands : List SourceFile → BodyPiece → Bool
body_stands files piece = stands files piece.lexeme.span

-- The directive that opens a condition stands.
abbrev pub condition_stands : List SourceFile → Condition → Bool
condition_stands files condition = stands files condition.place

-- A token stands, and so does the use from which it comes.
unfoldable pub token_stands : List SourceFile → VerilogToken → Bool
token_stands files token = stands files token.span && stands_if_some files token.use_place

-- The place of a fault stands, if it has one.
abbrev pub fault_stands : List SourceFile → Fault → Bool
fault_stands files faults.Memory = true
fault_stands files faults.TooMuchText = true
fault_stands files (faults.At kind place) = stands files place

-- A lexeme stands.
abbrev pub lexeme_stands : List SourceFile → VerilogLexeme → Bool
lexeme_stands files lexeme = stands files lexeme.span

-- Where the outermost macro was used from which a piece comes, if it comes from one.
abbrev pub use_place : Option Origin → Option FileSpan
use_place None = None
use_place (Some origin) = Some origin.place

-- Where the outermost macro was used of those from which the use of a macro comes, and the use itself where it comes from none.
abbrev pub outermost_of : FileSpan → Option Origin → FileSpan
outermost_of place None = place
outermost_of place (Some origin) = origin.place

abbrev pub outermost_place : PendingPiece → FileSpan
outermost_place piece = outermost_of piece.lexeme.span piece.origin

-- One byte of a file.
abbrev pub span_at_byte : ℕ → ℕ → FileSpan
span_at_byte file begin = record { file = file; begin = begin; length = 1 }

-- The fault that stops the cut of a file's text.
abbrev pub cut_fault : ℕ → LexicalFault → Fault
cut_fault file cuts.Memory = faults.Memory
cut_fault file (cuts.Stray begin) = faults.At kinds.StrayByte (span_at_byte file begin)
cut_fault file (cuts.UnfinishedString begin) = faults.At kinds.UnfinishedString (span_at_byte file begin)
cut_fault file (cuts.UnfinishedComment begin) = faults.At kinds.UnfinishedComment (span_at_byte file begin)

-- The bytes of tokens.
use Rattle.std.specs.Prelude.{ℕ, ◌-◌, List, [], ◌∷◌, length, take, drop, nat_le, ◌&&◌, ◌==◌, if◌then◌else◌, Option, Some, None, slice_get}
use Rattle.lexemes.specs.declared.token.SourceFile.{SourceFile}
use Rattle.lexemes.specs.declared.token.FileSpan.{FileSpan}
use Rattle.lexemes.specs.declared.token.VerilogToken.{VerilogToken}
use Rattle.expression_syntax.specs.declared.texts.TokenSource.{TokenSource}

-- Bytes of a text from a place on, and none where the text has fewer.
abbrev pub text_part : List ℕ → ℕ → ℕ → List ℕ
text_part text begin n = if nat_le begin (length text) && nat_le n (length text - begin) then take n (drop begin text) else []

abbrev pub bytes_in : Option SourceFile → FileSpan → List ℕ
bytes_in None span = []
bytes_in (Some file) span = text_part file.text.items span.begin span.length

-- The bytes of a span, and none where its file has fewer.
abbrev pub span_bytes : List SourceFile → FileSpan → List ℕ
span_bytes files span = bytes_in (slice_get files span.file) span

abbrev pub bytes_of_token : List SourceFile → Option VerilogToken → List ℕ
bytes_of_token files None = []
bytes_of_token files (Some t) = span_bytes files t.span

-- The bytes of the token with a number, and none where there is no such token.
abbrev pub token_bytes : TokenSource → ℕ → List ℕ
token_bytes source n = bytes_of_token source.files.now (slice_get source.tokens.now n)

-- The name that bytes spell: an escaped one without its `\` (3.7.1).
abbrev pub name_spelled : List ℕ → List ℕ
name_spelled [] = []
name_spelled (b ∷ bs) = if b == 92 then bs else b ∷ bs

-- The bytes of spans.
use Rattle.std.specs.Prelude.{ℕ, List, map, [], take, drop, get_or}
use Rattle.lexemes.specs.declared.token.FileSpan.{FileSpan}
use Rattle.lexemes.specs.declared.token.SourceFile.{SourceFile}

-- The texts of files.
abbrev pub file_texts : List SourceFile → List (List ℕ)
file_texts files = map (λ f. f.text.items) files

-- The bytes of a span, by the texts of the files.
abbrev pub bytes_in_span : List (List ℕ) → FileSpan → List ℕ
bytes_in_span texts place = take place.length (drop place.begin (get_or texts place.file []))

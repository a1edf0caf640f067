-- Where spans begin, for people (IEEE 1364-2005, 19.7). Numbers stop at the greatest that the machine has.
use Rattle.std.specs.Prelude.{ℕ, suc, ◌+◌, ◌-◌, ◌^◌, min, ◌==◌, nat_lt, nat_le, Bool, ◌&&◌, if◌then◌else◌, List, [], ◌∷◌, length, take, drop, map, get_or, Option, Some, None, string_bytes}
use Rattle.lexemes.specs.declared.token.FileSpan.{FileSpan}
use Rattle.lexemes.specs.declared.token.SourceFile.{SourceFile}
use Rattle.source_texts.specs.declared.settings.LineMark.{LineMark}
use Rattle.source_texts.specs.Texts.{bytes_in_span, file_texts}

-- the greatest number that is told
abbrev pub greatest_told : ℕ
greatest_told = 2 ^ 64 - 1

-- how many newlines a text has
abbrev pub newlines_in : List ℕ → ℕ
newlines_in [] = 0
newlines_in (b ∷ bs) = if b == 10 then suc (newlines_in bs) else newlines_in bs

-- how many bytes stand behind the last newline, where so many stand before these
abbrev pub count_behind : ℕ → ℕ → ℕ
count_behind count b = if b == 10 then 0 else min (count + 1) greatest_told

abbrev pub bytes_behind : ℕ → List ℕ → ℕ
bytes_behind count [] = count
bytes_behind count (b ∷ bs) = bytes_behind (count_behind count b) bs

-- what stands between quotes
abbrev pub between_quotes : List ℕ → List ℕ
between_quotes text = if nat_lt 1 (length text) then take (length text - 2) (drop 1 text) else text

-- a `line directive stands in the file of a span, and not behind it
abbrev pub is_mark_of : FileSpan → LineMark → Bool
is_mark_of place mark = (mark.place.file == place.file) && nat_le mark.place.begin place.begin

-- the last of them, and one that stands before them where there is none
abbrev pub last_mark : FileSpan → Option LineMark → List LineMark → Option LineMark
last_mark place found [] = found
last_mark place found (mark ∷ marks) = last_mark place (if is_mark_of place mark then Some mark else found) marks

-- a file, a line and a column
pub record PlainPlace : Type 0 where
  pub file : List ℕ
  pub line : ℕ
  pub column : ℕ

-- the text of a file before a byte
abbrev pub text_before : List SourceFile → ℕ → ℕ → List ℕ
text_before files file byte = take byte (get_or (file_texts files) file [])

-- the number of a line, by the text before
abbrev pub line_behind : List ℕ → ℕ
line_behind before = min (newlines_in before + 1) greatest_told

-- the name of a file
abbrev pub file_name : List SourceFile → ℕ → List ℕ
file_name files number = get_or (map (λ f. string_bytes f.name) files) number []

-- the line of a directive is that behind it, and so on
abbrev pub marked_line : List SourceFile → FileSpan → LineMark → ℕ
marked_line files place mark =
    min (mark.line + (line_behind (text_before files place.file place.begin) - min (newlines_in (text_before files place.file mark.place.begin) + 2) greatest_told)) greatest_told

-- the file and the line in which a span begins, by the directive before it, if there is one
abbrev pub file_by : List SourceFile → FileSpan → Option LineMark → List ℕ
file_by files place None = file_name files place.file
file_by files place (Some mark) = between_quotes (bytes_in_span (file_texts files) mark.name)

abbrev pub line_by : List SourceFile → FileSpan → Option LineMark → ℕ
line_by files place None = line_behind (text_before files place.file place.begin)
line_by files place (Some mark) = marked_line files place mark

-- where a span begins; a column is the number of a byte in its line
abbrev pub told_place : List SourceFile → List LineMark → FileSpan → PlainPlace
told_place files marks place = record {
  file = file_by files place (last_mark place None marks);
  line = line_by files place (last_mark place None marks);
  column = min (bytes_behind 0 (text_before files place.file place.begin) + 1) greatest_told;
}

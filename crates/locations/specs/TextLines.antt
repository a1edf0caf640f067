-- Lines of a text, and the columns that a text takes in a terminal. Numbers stop at the greatest that the machine has.
use Rattle.std.specs.Prelude.{ℕ, suc, ◌+◌, ◌-◌, ◌%◌, ◌^◌, min, List, [], ◌∷◌, Bool, true, false, ◌==◌, if◌then◌else◌, fold, chars, unwrap_or}
use Rattle.std.specs.Str.{is_utf8}
use Rattle.unicode_width.specs.Width.{char_width}

-- How many newlines a text has.
abbrev pub newlines : List ℕ → ℕ
newlines [] = 0
newlines (b ∷ bs) = if b == 10 then suc (newlines bs) else newlines bs

-- What is behind a newline, or the line so far.
abbrev pub line_so_far : Bool → List ℕ → List ℕ → List ℕ
line_so_far true rest line = rest
line_so_far false rest line = line

-- What stands behind the last newline of a text, and a given line where it has none.
abbrev pub last_line_or : List ℕ → List ℕ → List ℕ
last_line_or line [] = line
last_line_or line (b ∷ bs) = last_line_or (line_so_far (b == 10) bs line) bs

-- What stands behind the last newline of a text; all of it where there is none.
abbrev pub last_line : List ℕ → List ℕ
last_line text = last_line_or text text

-- The greatest number that is told.
abbrev pub most : ℕ
most = 2 ^ 64 - 1

-- The columns after a character: a tab goes to the next multiple of eight, and the others take their width in a terminal, where
-- a control character is shown in one column.
abbrev pub after_char : ℕ → ℕ → ℕ
after_char columns c = if c == 9 then min (columns - columns % 8 + 8) most else min (columns + unwrap_or (char_width false c) 1) most

-- The columns that a text takes from the beginning of a line on: by its characters where it is UTF-8, else each byte is a
-- character of its own.
abbrev pub columns_of : List ℕ → ℕ
columns_of text = if is_utf8 text then fold after_char 0 (chars text) else fold after_char 0 text

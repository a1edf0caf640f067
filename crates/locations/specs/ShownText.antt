-- Texts as they are shown to people, and a line of a source with a caret below a byte.
use Rattle.std.specs.Prelude.{ℕ, ◌-◌, nat_lt, ◌==◌, Bool, true, false, not, ◌&&◌, ◌||◌, if◌then◌else◌, List, [], ◌∷◌, ◌++◌, length, take, drop, get_or, flat_map, replicate, chars, codes, unwrap_or, encode_utf8_all}
use Rattle.std.specs.Char.{is_control, encode_utf8}
use Rattle.std.specs.Char.Escape.{escape_default}
use Rattle.std.specs.Str.{is_utf8}
use Rattle.unicode_width.specs.Width.{char_width}
use Rattle.tokens.specs.ByteClasses.{in_line, span}
use Rattle.locations.specs.TextLines.{last_line}

-- a character is shown by its escape: a control character, but no tab in a line of a source
abbrev pub is_escaped : Bool → ℕ → Bool
is_escaped in_source c = is_control c && not (in_source && (c == 9))

-- a character as it is shown
abbrev pub shown_char : Bool → ℕ → List ℕ
shown_char in_source c = if is_escaped in_source c then encode_utf8_all (escape_default c) else encode_utf8 c

-- bytes as they are shown: by their characters where they are UTF-8, else each byte as a character of its own
abbrev pub shown_bytes : Bool → List ℕ → List ℕ
shown_bytes in_source bytes = if is_utf8 bytes then flat_map (shown_char in_source) (chars bytes) else flat_map (shown_char in_source) bytes

-- a line without the return at its end
abbrev pub without_return : List ℕ → List ℕ
without_return line = if get_or line (length line - 1) 0 == 13 then take (length line - 1) line else line

-- a line from a byte on, without its end
abbrev pub rest_of_line : List ℕ → ℕ → List ℕ
rest_of_line source byte = without_return (take (span in_line (drop byte source)) (drop byte source))

-- what stands below a character: a tab, or a space for each column that it takes
abbrev pub blank_below : ℕ → List ℕ
blank_below c = if c == 9 then 9 ∷ [] else replicate (unwrap_or (char_width false c) 0) 32

-- a line that is shown so, with a caret below what stands behind its front
abbrev pub line_and_caret : List ℕ → List ℕ → List ℕ
line_and_caret front back = front ++ (back ++ (codes "\n" ++ (flat_map blank_below (chars front) ++ codes "^\n")))

-- the line of a byte by its two parts; a very long one isn't shown
abbrev pub excerpt_of : List ℕ → List ℕ → List ℕ
excerpt_of front back = if nat_lt 1000 (length front) || nat_lt 1000 (length back) then [] else line_and_caret (shown_bytes true front) (shown_bytes true back)

-- the line of a byte, with a caret below it
abbrev pub excerpt : List ℕ → ℕ → List ℕ
excerpt source byte = excerpt_of (last_line (take byte source)) (rest_of_line source byte)

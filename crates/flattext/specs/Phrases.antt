-- Parts of lines: spaces before them, literals and strings (IEEE 1364-2005, 3.5.1, 3.6).
use Rattle.std.specs.Prelude.{ℕ, zero, suc, ◌+◌, ◌/◌, ◌%◌, Bool, ◌&&◌, ◌==◌, nat_lt, nat_le, if◌then◌else◌, [], ◌∷◌, ◌++◌, length, Option, Some, None, codes, decimal}
use Rattle.logic4.specs.Vector.{Vector, is_known, number}
use Rattle.logic4.specs.Display.{binary_text}
use Rattle.model.specs.Syntax.{Text}

-- the spaces before a line that stands so deep
abbrev pub indent : ℕ → Text
indent zero = []
indent (suc depth) = indent depth ++ codes "  "

-- how deep lines stand at most
abbrev pub deepest : ℕ
deepest = 16

-- how deep the lines inside of others stand
unfoldable pub deeper : ℕ → ℕ
deeper depth = if nat_lt depth deepest then depth + 1 else depth

-- the number of a vector, where all digits are known
unfoldable pub known_number : Vector → Option ℕ
known_number v = if is_known v then Some (number v) else None

-- the number of a vector of more than one digit, where all are known
unfoldable pub shown_number : Vector → Option ℕ
shown_number v = if nat_lt 1 (length v) then known_number v else None

-- the base and the digits of a vector: a decimal where there is a number to show, else all digits
abbrev pub digits_text : Option ℕ → Vector → Text
digits_text (Some n) v = codes "'d" ++ decimal n
digits_text None v = codes "'b" ++ binary_text v

-- a literal with its size (3.5.1)
unfoldable pub literal_text : Vector → Text
literal_text v = decimal (length v) ++ digits_text (shown_number v) v

-- a byte by three octal digits (3.6.3)
abbrev pub octal_escape : ℕ → Text
octal_escape byte = 92 ∷ (48 + byte / 64) ∷ (48 + (byte / 8) % 8) ∷ (48 + byte % 8) ∷ []

-- a space, or a byte that is printed
abbrev pub is_printable : ℕ → Bool
is_printable byte = nat_le 32 byte && nat_le byte 126

-- a byte by itself, or by its octal digits where it isn't printable
abbrev pub string_byte : ℕ → Text
string_byte byte = if is_printable byte then byte ∷ [] else octal_escape byte

-- a byte as it stands in a string: what isn't printable, a " and a \ are escaped (3.6)
abbrev pub escaped_byte : ℕ → Text
escaped_byte byte =
    if byte == 10 then codes "\\n"
    else (if byte == 9 then codes "\\t"
    else (if byte == 92 then codes "\\\\"
    else (if byte == 34 then codes "\\\""
    else string_byte byte)))

-- so all bytes of a string
abbrev pub escaped_bytes : Text → Text
escaped_bytes [] = []
escaped_bytes (byte ∷ bytes) = escaped_byte byte ++ escaped_bytes bytes

-- a string between its quotation marks
unfoldable pub string_literal_text : Text → Text
string_literal_text bytes = codes "\"" ++ (escaped_bytes bytes ++ codes "\"")

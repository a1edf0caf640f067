-- Classes of bytes, and runs of them.
use Rattle.std.specs.Prelude.{ℕ, suc, ◌+◌, ◌*◌, ◌-◌, ◌^◌, List, [], ◌∷◌, Bool, true, not, ◌&&◌, ◌||◌, ◌==◌, nat_lt, nat_le, if◌then◌else◌, Option, Some, None}
use Rattle.logic4.specs.Vector.{greatest_width}
use Rattle.tokens.specs.declared.spans.Class.{Class}
use Rattle.tokens.specs.declared.spans.Class.TheVariants as classes

-- A letter of ASCII, or _ (IEEE 1364-2005, 3.7).
abbrev pub is_letter : ℕ → Bool
is_letter b = (nat_le 65 b && nat_le b 90) || (nat_le 97 b && nat_le b 122) || b == 95

-- A decimal digit.
abbrev pub is_digit : ℕ → Bool
is_digit b = nat_le 48 b && nat_le b 57

-- Stands inside a name, after its first byte: a letter, _, a digit or $ (3.7).
abbrev pub in_word : ℕ → Bool
in_word b = is_letter b || is_digit b || b == 36

-- Stands inside a sized literal, after its ': what stands inside a name, or ?.
abbrev pub in_literal : ℕ → Bool
in_literal b = is_letter b || is_digit b || b == 36 || b == 63

-- Stands inside a number of any spelling: what stands inside a sized literal, or its '.
abbrev pub in_number : ℕ → Bool
in_number b = is_letter b || is_digit b || b == 36 || b == 63 || b == 39

-- White space: space, tab, newline and carriage return (3.2).
abbrev pub is_space : ℕ → Bool
is_space b = b == 32 || b == 9 || b == 10 || b == 13

-- Stands inside a comment up to the end of its line: any byte but a newline (3.3).
abbrev pub in_line : ℕ → Bool
in_line b = not (b == 10)

-- Stands for itself in a string: 0x20 to 0x7e, but not `"` or `\` (3.6).
abbrev pub in_string : ℕ → Bool
in_string b = nat_le 32 b && nat_le b 126 && not (b == 34) && not (b == 92)

-- Follows a `\` in a string: n, t, `\` or `"` (3.6.3).
abbrev pub is_escape : ℕ → Bool
is_escape b = b == 110 || b == 116 || b == 92 || b == 34

-- Of a class of the program.
abbrev pub is_in : Class → ℕ → Bool
is_in classes.Word = in_word
is_in classes.Literal = in_literal
is_in classes.Number = in_number
is_in classes.Digit = is_digit
is_in classes.Line = in_line

-- All bytes are of a class.
abbrev pub all : (ℕ → Bool) → List ℕ → Bool
all p [] = true
all p (b ∷ bs) = p b && all p bs

-- How many bytes at the front are of a class.
abbrev pub span : (ℕ → Bool) → List ℕ → ℕ
span p [] = 0
span p (b ∷ bs) = if p b then suc (span p bs) else 0

-- The number that digits stand for after those that gave n, where a vector of the greatest width holds it.
abbrev pub value_from : ℕ → List ℕ → Option ℕ
value_from n [] = Some n
value_from n (d ∷ ds) = if nat_lt (n * 10 + (d - 48)) (2 ^ greatest_width) then value_from (n * 10 + (d - 48)) ds else None

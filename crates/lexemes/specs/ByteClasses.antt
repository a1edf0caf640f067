-- Classes of bytes, and runs of them (IEEE 1364-2005, 3).
use Rattle.std.specs.Prelude.{ℕ, suc, List, [], ◌∷◌, Bool, true, false, not, ◌&&◌, ◌||◌, ◌==◌, nat_le, if◌then◌else◌}
use Rattle.lexemes.specs.declared.spans.ByteClass.{ByteClass}
use Rattle.lexemes.specs.declared.spans.ByteClass.TheVariants as classes

-- A letter of ASCII, or _ (3.7).
abbrev pub begins_name : ℕ → Bool
begins_name b = (nat_le 65 b && nat_le b 90) || (nat_le 97 b && nat_le b 122) || b == 95

-- A decimal digit.
abbrev pub is_decimal_digit : ℕ → Bool
is_decimal_digit b = nat_le 48 b && nat_le b 57

-- Stands inside a name, after its first byte: a letter, _, a digit or $ (3.7).
abbrev pub in_identifier : ℕ → Bool
in_identifier b = begins_name b || is_decimal_digit b || b == 36

-- Stands inside a run of digits, after its first: a digit or _ (3.5).
abbrev pub in_digits : ℕ → Bool
in_digits b = is_decimal_digit b || b == 95

-- Stands behind the base of a number: a digit, a letter from a to f, x or z in either case, ? or _ (3.5.1).
abbrev pub in_based : ℕ → Bool
in_based b =
    is_decimal_digit b || (nat_le 97 b && nat_le b 102) || (nat_le 65 b && nat_le b 70)
    || b == 120 || b == 88 || b == 122 || b == 90 || b == 63 || b == 95

-- Stands in an escaped name: what is printable and no space (3.7.1).
abbrev pub is_visible : ℕ → Bool
is_visible b = nat_le 33 b && nat_le b 126

-- White space: space, tab, newline, form feed and carriage return (3.2).
abbrev pub is_white_space : ℕ → Bool
is_white_space b = b == 32 || b == 9 || b == 10 || b == 12 || b == 13

-- Stands inside a comment up to the end of its line: any byte but a newline (3.3).
abbrev pub in_line_comment : ℕ → Bool
in_line_comment b = not (b == 10)

-- The letter of a base: b, o, d or h in either case (3.5.1).
abbrev pub is_base_letter : ℕ → Bool
is_base_letter b = b == 98 || b == 111 || b == 100 || b == 104 || b == 66 || b == 79 || b == 68 || b == 72

-- The letter s in either case, which makes a number with a base signed (3.5.1).
abbrev pub is_signed_letter : ℕ → Bool
is_signed_letter b = b == 115 || b == 83

-- The letter e in either case, before an exponent (3.5.2).
abbrev pub is_exponent_letter : ℕ → Bool
is_exponent_letter b = b == 101 || b == 69

-- A plus or a minus.
abbrev pub is_plus_or_minus : ℕ → Bool
is_plus_or_minus b = b == 43 || b == 45

-- Of a class of the program.
abbrev pub is_in_class : ByteClass → ℕ → Bool
is_in_class classes.Word = in_identifier
is_in_class classes.Number = in_digits
is_in_class classes.Based = in_based
is_in_class classes.Graphic = is_visible
is_in_class classes.Line = in_line_comment

-- All bytes are of a class.
abbrev pub all_bytes : (ℕ → Bool) → List ℕ → Bool
all_bytes p [] = true
all_bytes p (b ∷ bs) = p b && all_bytes p bs

-- How many bytes at the front are of a class.
abbrev pub run_length : (ℕ → Bool) → List ℕ → ℕ
run_length p [] = 0
run_length p (b ∷ bs) = if p b then suc (run_length p bs) else 0

-- No bytes.
abbrev pub has_no_bytes : List ℕ → Bool
has_no_bytes [] = true
has_no_bytes (b ∷ bs) = false

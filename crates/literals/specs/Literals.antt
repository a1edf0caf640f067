-- The text of a value as a literal (3.5.1).
use Rattle.std.specs.Prelude.{ℕ, ◌==◌, ◌||◌, Bool, not, nat_lt, if◌then◌else◌, List, ◌++◌, length, codes, decimal}
use Rattle.std.specs.List.{list_any}
use Rattle.logic4.specs.Vector.{Vector}
use Rattle.logic4.specs.Display.{binary_text, decimal_text, hex_text}
use Rattle.literals.specs.declared.literal.Radix.{Radix}
use Rattle.literals.specs.declared.literal.Radix.TheVariants.{Binary, Decimal, Hex}

-- the base of a literal
abbrev pub base_text : Radix → List ℕ
base_text Binary = codes "'b"
base_text Decimal = codes "'d"
base_text Hex = codes "'h"

-- the digits of a value by a radix, as `%b`, `%0d` and `%h` show them (17.1.1)
abbrev pub radix_digits : Radix → Vector → List ℕ
radix_digits Binary v = binary_text v
radix_digits Decimal v = decimal_text v
radix_digits Hex v = hex_text v

-- a letter for several digits that aren't all alike: X, or Z
abbrev pub is_mixed : ℕ → Bool
is_mixed letter = (letter == 88) || (letter == 90)

-- the radix that says each digit of a value: this one, or the binary one where a letter stands for digits that aren't all alike
abbrev pub exact_radix : Radix → Vector → Radix
exact_radix radix v = if list_any is_mixed (radix_digits radix v) then Binary else radix

-- a sized literal
abbrev pub sized_text : Radix → Vector → List ℕ
sized_text radix v = decimal (length v) ++ base_text radix ++ radix_digits radix v

-- a value: one digit alone, and more of them as a sized literal that says each digit
abbrev pub value_text : Radix → Vector → List ℕ
value_text radix v = if nat_lt 1 (length v) then sized_text (exact_radix radix v) v else binary_text v

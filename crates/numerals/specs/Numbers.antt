-- What numbers stand for (IEEE 1364-2005, 3.5.1): a size, a base and digits.
use Rattle.std.specs.Prelude.{ℕ, ◌+◌, ◌*◌, ◌-◌, ◌^◌, List, [], ◌∷◌, ◌++◌, length, take, drop, replicate, Bool, true, false, not, ◌&&◌, ◌==◌, nat_lt, nat_le, if◌then◌else◌, Option, Some, None, option_map}
use Rattle.logic4.specs.declared.digit.Digit.{Digit}
use Rattle.logic4.specs.Vector.{Vector, greatest_width, vector}
use Rattle.tokens.specs.Literals.{all_digits, filling_of, all_zero}
use Rattle.numerals.specs.declared.bytes.NumberBase.{NumberBase}
use Rattle.numerals.specs.declared.bytes.NumberBase.TheVariants.{Binary, Octal, Decimal, Hexadecimal}
use Rattle.numerals.specs.declared.decimals.DecimalReading.{DecimalReading}
use Rattle.numerals.specs.declared.decimals.DecimalReading.TheVariants as decimal
use Rattle.numerals.specs.declared.number.NumberReading.{NumberReading}
use Rattle.numerals.specs.declared.number.NumberReading.TheVariants as reading
use Rattle.numerals.specs.Bytes.{unknown_digit, digit_value, base_of, all_underscores}

-- The width of a number without a size. The standard says at least 32.
abbrev pub plain_width : ℕ
plain_width = 32

-- ---- base ten

-- A number with one digit more, where a vector of the greatest width holds it.
abbrev pub with_digit : ℕ → ℕ → Option ℕ
with_digit n b = if nat_lt (n * 10 + (b - 48)) (2 ^ greatest_width) then Some (n * 10 + (b - 48)) else None

abbrev pub value_or_wide : Option ℕ → DecimalReading
value_or_wide None = decimal.Wide
value_or_wide (Some n) = decimal.Value n

-- A number with one byte more: a digit, or a `_`, which counts for nothing.
abbrev pub value_with : ℕ → ℕ → DecimalReading
value_with n b = if b == 95 then decimal.Value n else (if nat_le 48 b && nat_le b 57 then value_or_wide (with_digit n b) else decimal.Malformed)

-- What was read, with one byte more.
abbrev pub reading_with : DecimalReading → ℕ → DecimalReading
reading_with (decimal.Value n) b = value_with n b
reading_with decimal.Wide b = decimal.Wide
reading_with decimal.Malformed b = decimal.Malformed

-- What was read, with all these bytes more.
abbrev pub decimal_from : DecimalReading → List ℕ → DecimalReading
decimal_from r [] = r
decimal_from r (b ∷ bs) = decimal_from (reading_with r b) bs

-- The number that digits stand for.
abbrev pub decimal_value : List ℕ → DecimalReading
decimal_value bs = decimal_from (decimal.Value 0) bs

-- ---- bases that are powers of two

-- The digits that a byte stands for, with those above the first ones that count.
abbrev pub four_digits_of : ℕ → Option ℕ → Option Vector
four_digits_of bits None = None
four_digits_of bits (Some n) = if nat_lt n (2 ^ bits) then Some (vector 4 n) else None

abbrev pub four_digits_by : ℕ → Option Digit → Option ℕ → Option Vector
four_digits_by bits (Some d) n = Some (replicate 4 d)
four_digits_by bits None n = four_digits_of bits n

abbrev pub four_digits : ℕ → ℕ → Option Vector
four_digits bits b = four_digits_by bits (unknown_digit b) (digit_value b)

-- The digits that a byte stands for, in a base whose digits have this many bits: x or z in all of them, or those of its value. A `_`
-- stands for none.
abbrev pub digits_of_byte : ℕ → ℕ → Option Vector
digits_of_byte bits b = if b == 95 then Some [] else option_map (take bits) (four_digits bits b)

-- Digits at a width: filled up on the left with 0, or with x or z where that is the most significant digit; or cut on the left.
unfoldable pub digits_at_width : ℕ → Vector → Vector
digits_at_width width v = if nat_le (length v) width then v ++ replicate (width - length v) (filling_of v) else take width v

-- A digit that isn't 0 stands past a width.
abbrev pub cuts_digits : ℕ → Vector → Bool
cuts_digits width v = if nat_le (length v) width then false else not (all_zero (drop width v))

-- ---- numbers

-- The number of a width that decimal digits stand for.
abbrev pub decimal_at_width : Bool → Bool → ℕ → DecimalReading → NumberReading
decimal_at_width sized signed width decimal.Malformed = reading.Malformed
decimal_at_width sized signed width decimal.Wide = reading.Wide
decimal_at_width sized signed width (decimal.Value n) = reading.Value (record { sized = sized; signed = signed; cut = not (nat_lt n (2 ^ width)); digits = vector width n })

abbrev pub decimal_number : Bool → Bool → ℕ → List ℕ → NumberReading
decimal_number sized signed width bs = decimal_at_width sized signed width (decimal_value bs)

-- The number of a width with these digits.
abbrev pub number_of_digits : Bool → Bool → ℕ → Vector → NumberReading
number_of_digits sized signed width v = reading.Value (record { sized = sized; signed = signed; cut = cuts_digits width v; digits = digits_at_width width v })

-- The digit that all of a decimal number's are: one x or z, and behind it nothing but `_`.
abbrev pub lone_digit : List ℕ → Option Digit
lone_digit [] = None
lone_digit (b ∷ bs) = if all_underscores bs then unknown_digit b else None

abbrev pub decimal_by : Bool → Bool → ℕ → List ℕ → Option Digit → NumberReading
decimal_by sized signed width bs None = decimal_number sized signed width bs
decimal_by sized signed width bs (Some d) = number_of_digits sized signed width (d ∷ [])

-- A number of base ten: digits, or one x or z that all its digits are.
abbrev pub decimal_or_unknown : Bool → Bool → ℕ → List ℕ → NumberReading
decimal_or_unknown sized signed width bs = decimal_by sized signed width bs (lone_digit bs)

abbrev pub digits_or_none : Bool → Bool → ℕ → Option Vector → NumberReading
digits_or_none sized signed width None = reading.Malformed
digits_or_none sized signed width (Some v) = number_of_digits sized signed width v

-- A number of a base whose digits have this many bits.
abbrev pub number_of_bits : Bool → Bool → ℕ → ℕ → List ℕ → NumberReading
number_of_bits sized signed width bits bs = digits_or_none sized signed width (all_digits (digits_of_byte bits) bs [])

-- A number of a base.
abbrev pub number_in : NumberBase → Bool → Bool → ℕ → List ℕ → NumberReading
number_in Decimal sized signed width bs = decimal_or_unknown sized signed width bs
number_in Binary sized signed width bs = number_of_bits sized signed width 1 bs
number_in Octal sized signed width bs = number_of_bits sized signed width 3 bs
number_in Hexadecimal sized signed width bs = number_of_bits sized signed width 4 bs

abbrev pub with_radix : Bool → ℕ → List ℕ → Option (Bool × NumberBase) → NumberReading
with_radix sized width bs None = reading.Malformed
with_radix sized width bs (Some p) = number_in p.1 sized p.0 width bs

-- A number of a width, by its base and its digits.
abbrev pub with_base : Bool → ℕ → List ℕ → List ℕ → NumberReading
with_base sized width base bs = with_radix sized width bs (base_of base)

-- A number without a base: it is decimal and signed, and has no size.
abbrev pub plain_number : List ℕ → NumberReading
plain_number bs = decimal_number false true plain_width bs

-- A number without a size.
abbrev pub based_number : List ℕ → List ℕ → NumberReading
based_number base bs = with_base false plain_width base bs

abbrev pub with_size : DecimalReading → List ℕ → List ℕ → NumberReading
with_size decimal.Malformed base bs = reading.Malformed
with_size decimal.Wide base bs = reading.Wide
with_size (decimal.Value n) base bs = if n == 0 then reading.Malformed else (if nat_le n greatest_width then with_base true n base bs else reading.Wide)

-- A number by its size, which is 1 to the greatest width, its base and its digits.
abbrev pub sized_number : List ℕ → List ℕ → List ℕ → NumberReading
sized_number size base bs = with_size (decimal_value size) base bs

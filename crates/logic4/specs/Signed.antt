-- Vectors as numbers with a sign (IEEE 1364-2005, 5.5), in two's complement.
use Rattle.std.specs.Prelude.{◌-◌, ◌^◌, Bool, not, if◌then◌else◌, length, ℤ, pos, neg_ℤ, int_lt}
use Rattle.logic4.specs.declared.digit.Digit.{Digit}
use Rattle.logic4.specs.declared.digit.Digit.TheVariants.{One}
use Rattle.logic4.specs.Vector.{Vector, number}
use Rattle.logic4.specs.Operators.{same_digit, digit_where_known}
use Rattle.logic4.specs.Extensions.{sign_digit}

-- whether the sign is 1
abbrev pub is_negative : Vector → Bool
is_negative v = same_digit (sign_digit v) One

-- the number of a vector whose digits are all known: where its sign is 1, minus what it lacks of 2 to the width
abbrev pub signed_number : Vector → ℤ
signed_number v = if is_negative v then neg_ℤ (pos (2 ^ length v - number v)) else pos (number v)

-- whether the left number is less, x where a digit is unknown (5.1.7, 5.5.4)
abbrev pub signed_lt_vector : Vector → Vector → Digit
signed_lt_vector v w = digit_where_known v w (int_lt (signed_number v) (signed_number w))

-- whether the left number is at most the right one, x where a digit is unknown
abbrev pub signed_le_vector : Vector → Vector → Digit
signed_le_vector v w = digit_where_known v w (not (int_lt (signed_number w) (signed_number v)))

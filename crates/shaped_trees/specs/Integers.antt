-- Constants as numbers.
use Rattle.std.specs.Prelude.{◌^◌, Bool, true, false, nat_lt, if◌then◌else◌, Option, Some, None, ℤ, pos, unsigned_abs}
use Rattle.logic4.specs.declared.digit.Extension.{Extension}
use Rattle.logic4.specs.declared.digit.Extension.TheVariants.{Zeros, Sign}
use Rattle.logic4.specs.Vector.{Vector, is_known, number}
use Rattle.logic4.specs.Signed.{signed_number}

-- how digits are extended, by whether they have a sign
abbrev pub extension_of : Bool → Extension
extension_of true = Sign
extension_of false = Zeros

-- the whole number of digits that are all known, by their sign where they have one (5.5)
abbrev pub whole_number : Bool → Vector → ℤ
whole_number true v = signed_number v
whole_number false v = pos (number v)

-- a whole number of less than 64 digits and its sign
abbrev pub short : ℤ → Option ℤ
short z = if nat_lt (unsigned_abs z) (2 ^ 63) then Some z else None

-- the number of a constant, where its digits are known and it has less than 64 of them and a sign
abbrev pub integer_of : Bool → Vector → Option ℤ
integer_of signed v = if is_known v then short (whole_number signed v) else None

-- Vectors at a greater width, extended by their signs or with zeros (IEEE 1364-2005, 5.4, 5.5.4).
use Rattle.std.specs.Prelude.{ℕ, ◌-◌, ◌++◌, length, take, replicate}
use Rattle.logic4.specs.declared.digit.Digit.{Digit}
use Rattle.logic4.specs.declared.digit.Digit.TheVariants.{Zero}
use Rattle.logic4.specs.declared.digit.Extension.{Extension}
use Rattle.logic4.specs.declared.digit.Extension.TheVariants.{Zeros, Sign}
use Rattle.logic4.specs.Vector.{Vector}
use Rattle.logic4.specs.Operators.{select_digit}

-- the sign of a vector is its most significant digit, and may be x or z
abbrev pub sign_digit : Vector → Digit
sign_digit v = select_digit v (length v - 1)

-- the digit by which a vector is extended
abbrev pub extension_digit : Extension → Vector → Digit
extension_digit Zeros v = Zero
extension_digit Sign v = sign_digit v

-- the first digits, as many as the width, of a vector with this digit behind it as often as it takes
abbrev pub extended_with : Digit → ℕ → Vector → Vector
extended_with d width v = take width (v ++ replicate width d)

-- a vector extended by its sign, or cut, to a width
abbrev pub sign_extended : ℕ → Vector → Vector
sign_extended width v = extended_with (sign_digit v) width v

-- a vector extended by its sign or with zeros, or cut, to a width
abbrev pub extend_vector : Extension → ℕ → Vector → Vector
extend_vector by width v = extended_with (extension_digit by v) width v

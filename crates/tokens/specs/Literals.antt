-- What numbers stand for: plain decimals, and sized literals (IEEE 1364-2005, 3.5.1). A literal may be malformed, or too
-- wide for its size.
use Rattle.std.specs.Prelude.{◌≡◌, ℕ, ◌-◌, ◌^◌, List, [], ◌∷◌, ◌++◌, length, take, drop, replicate, Bool, true, false, ◌&&◌, ◌==◌, nat_lt, nat_le, if◌then◌else◌, Option, Some, None, option_map, option_and_then}
use Rattle.logic4.specs.declared.digit.Digit.{Digit}
use Rattle.logic4.specs.declared.digit.Digit.TheVariants.{Zero, One, X, Z}
use Rattle.logic4.specs.Vector.{Vector, greatest_width, vector}
use Rattle.tokens.specs.ByteClasses.{is_digit, all, span, value_from}

-- The number of a run of digits, of at most 18.
unfoldable pub decimal_of : List ℕ → Option ℕ
decimal_of ds = if nat_le (length ds) 18 then value_from 0 ds else None

-- The digit that a byte of a literal of base b stands for: 0, 1, x or z.
unfoldable pub binary_digits : ℕ → Option Vector
binary_digits b =
    if b == 48 then Some (Zero ∷ []) else (if b == 49 then Some (One ∷ [])
    else (if b == 120 then Some (X ∷ []) else (if b == 122 then Some (Z ∷ []) else None)))

-- The four digits that a byte of a literal of base h stands for: 0 to 9, a to f, x or z.
unfoldable pub hex_digits : ℕ → Option Vector
hex_digits b =
    if is_digit b then Some (vector 4 (b - 48)) else (if nat_le 97 b && nat_le b 102 then Some (vector 4 (b - 87))
    else (if b == 120 then Some (replicate 4 X) else (if b == 122 then Some (replicate 4 Z) else None)))

-- The digits that a byte stands for, in base h or in base b.
abbrev pub digits_in : Bool → ℕ → Option Vector
digits_in true b = hex_digits b
digits_in false b = binary_digits b

-- The digits of a run of bytes, whose first is the most significant, above the digits that already stand.
abbrev pub all_digits : (ℕ → Option Vector) → List ℕ → Vector → Option Vector
all_digits of_byte [] below = Some below
all_digits of_byte (b ∷ bs) below = option_and_then (λ low. option_map (λ high. low ++ high) (of_byte b)) (all_digits of_byte bs below)

-- What a literal is filled up with, by its most significant digit: x with x, z with z, else 0 (3.5.1).
abbrev pub filling : Digit → Digit
filling X = X
filling Z = Z
filling d = Zero

-- What the last digit fills with, and the given one where there is none.
abbrev pub filling_from : Digit → Vector → Digit
filling_from fill [] = fill
filling_from fill (d ∷ v) = filling_from (filling d) v

-- What a vector is filled up with, by its last digit, the most significant.
abbrev pub filling_of : Vector → Digit
filling_of v = filling_from Zero v

-- The digit 0.
abbrev pub is_zero : Digit → Bool
is_zero Zero = true
is_zero d = false

-- All digits are 0.
abbrev pub all_zero : Vector → Bool
all_zero [] = true
all_zero (d ∷ v) = is_zero d && all_zero v

-- Given digits at a width: filled up, or cut where all that is cut is 0.
unfoldable pub fitted : ℕ → Vector → Option Vector
fitted width v =
    if nat_le (length v) width then Some (v ++ replicate (width - length v) (filling_of v))
    else (if all_zero (drop width v) then Some (take width v) else None)

-- The digits of a literal of base h, or of base b, at a width.
abbrev pub fitted_digits : Bool → ℕ → List ℕ → Option Vector
fitted_digits hex width bs = option_and_then (fitted width) (all_digits (digits_in hex) bs [])

-- The digits of a literal of base d, at a width that holds its number.
unfoldable pub decimal_vector : ℕ → Option ℕ → Option Vector
decimal_vector width None = None
decimal_vector width (Some n) = if nat_lt n (2 ^ width) then Some (vector width n) else None

-- No bytes.
abbrev pub is_empty : List ℕ → Bool
is_empty [] = true
is_empty (b ∷ bs) = false

-- The digits of a literal of a width, by its base b, h or d and what stands behind it, at least one byte.
unfoldable pub based : ℕ → ℕ → List ℕ → Option Vector
based width base bs =
    if is_empty bs then None
    else (if base == 98 then fitted_digits false width bs
    else (if base == 104 then fitted_digits true width bs
    else (if (base == 100) && all is_digit bs then decimal_vector width (value_from 0 bs) else None)))

-- The digits of a literal by its size, which is 1 to the greatest width.
abbrev pub sized_digits : Option ℕ → ℕ → List ℕ → Option Vector
sized_digits None base bs = None
sized_digits (Some width) base bs = if nat_le 1 width && nat_le width greatest_width then based width base bs else None

-- The digits of a literal by its size, and by what stands behind that: the ', the base and the bytes of the digits.
abbrev pub literal_from : List ℕ → List ℕ → Option Vector
literal_from size [] = None
literal_from size (q ∷ []) = None
literal_from size (q ∷ base ∷ bs) = sized_digits (decimal_of size) base bs

-- The digits of a sized literal, the least significant first; none where it is malformed or too wide.
unfoldable pub literal_of : List ℕ → Option Vector
literal_of text = literal_from (take (span is_digit text) text) (drop (span is_digit text) text)

-- The number that a token stands for, and its digits, which a sized literal has.
abbrev pub LiteralValue : Type 0
LiteralValue = ℕ × Option Vector

-- A plain decimal has a number and no digits; a sized literal has digits, and the number 0.
abbrev pub plain_literal_value : ℕ → LiteralValue
plain_literal_value n = (n, None)

-- The number and the digits of a plain decimal or of a sized literal; none where it is malformed or too wide.
unfoldable pub numeral_value_of : List ℕ → Option LiteralValue
numeral_value_of text = if all is_digit text then option_map plain_literal_value (decimal_of text) else option_map (λ v. (0, Some v)) (literal_of text)

-- The number and the digits of a token: 0 and none where it is neither a plain decimal nor a sized literal. None where one
-- of these is malformed or too wide.
abbrev pub literal_value_of : List ℕ → Option LiteralValue
literal_value_of [] = Some (0, None)
literal_value_of (b ∷ bs) = if is_digit b then numeral_value_of (b ∷ bs) else Some (0, None)

-- A number and digits where they were found, else 0 and none.
abbrev pub literal_value_or_none : Option LiteralValue → LiteralValue
literal_value_or_none None = (0, None)
literal_value_or_none (Some w) = w

-- The number of a token: that of a plain decimal, and 0 for every other.
unfoldable pub token_value : List ℕ → ℕ
token_value text = (literal_value_or_none (literal_value_of text)).0

-- The digits of a token: those of a sized literal, which no other has.
unfoldable pub token_digits : List ℕ → Option Vector
token_digits text = (literal_value_or_none (literal_value_of text)).1

-- What adding the digits of a byte does to those found.
abbrev pub AddsDigits : Option Vector → Vector → Bool → Vector → Type 0
AddsDigits (Some v) old true new = new ≡ old ++ v
AddsDigits None old false new = Unit {0}
AddsDigits _ old _ new = ⊥

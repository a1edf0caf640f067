-- What the bytes of numbers stand for (IEEE 1364-2005, 3.5.1).
use Rattle.std.specs.Prelude.{ℕ, ◌-◌, List, [], ◌∷◌, Bool, true, false, ◌&&◌, ◌||◌, ◌==◌, nat_le, if◌then◌else◌, Option, Some, None, option_map}
use Rattle.logic4.specs.declared.digit.Digit.{Digit}
use Rattle.logic4.specs.declared.digit.Digit.TheVariants.{X, Z}
use Rattle.numerals.specs.declared.bytes.NumberBase.{NumberBase}
use Rattle.numerals.specs.declared.bytes.NumberBase.TheVariants.{Binary, Octal, Decimal, Hexadecimal}

-- x or X is the digit x; z, Z and ? are the digit z.
abbrev pub unknown_digit : ℕ → Option Digit
unknown_digit b = if b == 120 || b == 88 then Some X else (if b == 122 || b == 90 || b == 63 then Some Z else None)

-- What a digit of base sixteen is worth: 0 to 9, a to f, A to F.
abbrev pub digit_value : ℕ → Option ℕ
digit_value b =
    if nat_le 48 b && nat_le b 57 then Some (b - 48)
    else (if nat_le 97 b && nat_le b 102 then Some (b - 87) else (if nat_le 65 b && nat_le b 70 then Some (b - 55) else None))

-- The base that a letter tells, of either case.
abbrev pub base_by_letter : ℕ → Option NumberBase
base_by_letter b =
    if b == 98 || b == 66 then Some Binary
    else (if b == 111 || b == 79 then Some Octal else (if b == 100 || b == 68 then Some Decimal else (if b == 104 || b == 72 then Some Hexadecimal else None)))

-- The base that a token tells, and whether it says that numbers of it are signed: ' and a letter, or ', s and a letter.
abbrev pub base_of : List ℕ → Option (Bool × NumberBase)
base_of (q ∷ b ∷ []) = option_map (λ r. (false, r)) (base_by_letter b)
base_of (q ∷ s ∷ b ∷ []) = if s == 115 || s == 83 then option_map (λ r. (true, r)) (base_by_letter b) else None
base_of _ = None

-- Nothing but `_`.
abbrev pub all_underscores : List ℕ → Bool
all_underscores [] = true
all_underscores (b ∷ bs) = b == 95 && all_underscores bs

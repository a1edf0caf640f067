-- Delays in ticks, of which all times of a run are made (IEEE 1364-2005, 19.8).
use Rattle.std.specs.Prelude.{◌≡◌, ◌≤◌, ◌<◌, ◌+◌, ◌-◌, ◌*◌, ◌^◌, ◌&&◌, ◌==◌, ℕ, Bool, true, false, List, [], ◌∷◌, nat_le, if◌then◌else◌}
use Rattle.statement_parts.specs.declared.scales.Decimal.{Decimal}
use Rattle.statement_parts.specs.declared.scales.TimeScale.{TimeScale}

-- the longest delay of a run, in ticks
abbrev pub longest : ℕ
longest = 4294967295

-- r is the whole number nearest to n / d, the greater where two are as near (4.8.2)
pub record IsRounded (n d r : ℕ) : Type 0 where
  pub no_more : 2 * (r * d) ≤ 2 * n + d
  pub no_less : 2 * n + d < 2 * (r * d + d)

abbrev pub is_decimal_byte : ℕ → Bool
is_decimal_byte byte = nat_le 48 byte && nat_le byte 57

-- the number that digits make behind those of another; other bytes don't count
abbrev pub number_behind : ℕ → List ℕ → ℕ
number_behind n [] = n
number_behind n (b ∷ bs) = number_behind (if is_decimal_byte b then n * 10 + (b - 48) else n) bs

-- how many digits there are
abbrev pub digit_count : List ℕ → ℕ
digit_count [] = 0
digit_count (b ∷ bs) = if is_decimal_byte b then digit_count bs + 1 else digit_count bs

-- how many digits stand behind the point
abbrev pub digits_behind : List ℕ → ℕ
digits_behind [] = 0
digits_behind (b ∷ bs) = if b == 46 then digit_count bs else digits_behind bs

-- A number with a point is a delay in ticks: so many units, rounded to the precision, which is so many ticks.
pub record IsScaled (number : Decimal) (scale : TimeScale) (ticks : ℕ) : Type 0 where
  pub rounded : ℕ
  pub is_rounded : IsRounded (number.digits * 10 ^ (scale.unit - scale.precision)) (10 ^ number.behind) rounded
  pub in_ticks : ticks ≡ rounded * 10 ^ scale.precision

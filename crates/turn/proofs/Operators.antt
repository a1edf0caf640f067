-- Truth values as digits.
use Rattle.std.proofs.Common.{◌≡◌, Bool, true, false, refl}
use Rattle.std.specs.Prelude.{not}
use Rattle.logic4.specs.Operators.{not_digit, bool_digit}

pub not_bool : (b : Bool) → not_digit (bool_digit b) ≡ bool_digit (not b)
not_bool true = refl
not_bool false = refl

-- How what is told of statements, or of one of two ways, is put together with what stands behind them.
use Rattle.std.proofs.Common.{◌≡◌, Bool, true, false, refl}
use Rattle.std.specs.Prelude.{◌||◌, ◌&&◌}

pub or_assoc : (a b c : Bool) → (a || (b || c)) ≡ ((a || b) || c)
or_assoc true b c = refl
or_assoc false b c = refl

pub or_nothing : (a : Bool) → (a || false) ≡ a
or_nothing true = refl
or_nothing false = refl

pub either_or : (a b l : Bool) → ((a || b) || l) ≡ ((a || l) || (b || l))
either_or true b l = refl
either_or false true true = refl
either_or false true false = refl
either_or false false true = refl
either_or false false false = refl

pub both_or : (a b l : Bool) → ((a && b) || l) ≡ ((a || l) && (b || l))
both_or true b l = refl
both_or false true true = refl
both_or false false true = refl
both_or false b false = refl

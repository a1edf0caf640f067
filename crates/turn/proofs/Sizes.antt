-- Vectors of the size that is asked for.
use Rattle.std.proofs.Common.{◌≡◌, ℕ, zero, suc, arith, [], ◌∷◌, length, refl, ap}
use Rattle.logic4.specs.Vector.{Vector, resize}

-- a vector of a size is the one of that size
pub resize_same : (n : ℕ) (v : Vector) → length v ≡ n → resize n v ≡ v
resize_same zero [] e = refl
resize_same zero (d ∷ v) e = absurd (omega (arith, e))
resize_same (suc n) [] e = absurd (omega (arith, e))
resize_same (suc n) (d ∷ v) e = ap (λ r. d ∷ r) (resize_same n v (omega (arith, e)))

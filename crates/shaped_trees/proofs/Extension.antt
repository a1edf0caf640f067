-- Vectors extended to a width.
use Rattle.std.proofs.Common.{◌≡◌, ℕ, zero, suc, ◌+◌, ◌-◌, ◌<◌, ◌≤◌, [], ◌∷◌, ◌++◌, length, take, replicate, refl, ap, ◌∙◌, arith}
use Rattle.std.proofs.lemmas.List.{length-append, length-replicate, length-take}
use Rattle.logic4.specs.declared.digit.Digit.TheVariants.{Zero}
use Rattle.logic4.specs.declared.digit.Extension.{Extension}
use Rattle.logic4.specs.declared.digit.Extension.TheVariants.{Sign}
use Rattle.logic4.specs.Vector.{Vector, vector, resize}
use Rattle.logic4.specs.Operators.{select_digit}
use Rattle.logic4.specs.Extensions.{extension_digit, extend_vector}
use Rattle.logic4.proofs.Lengths.{length-vector}

pub resize_same : (w : ℕ) (v : Vector) → length v ≡ w → resize w v ≡ v
resize_same zero [] h = refl
resize_same zero (d ∷ v) h = absurd (omega (arith, h))
resize_same (suc w) [] h = absurd (omega (arith, h))
resize_same (suc w) (d ∷ v) h = ap (λ u. d ∷ u) (resize_same w v (omega (arith, h)))

pub length-extended : (by : Extension) (w : ℕ) (v : Vector) → length (extend_vector by w v) ≡ w
length-extended by w v =
    omega (
      arith,
      length-take w (v ++ replicate w (extension_digit by v)),
      length-append v (replicate w (extension_digit by v)),
      length-replicate w (extension_digit by v),
    )

pub resize-extended : (w : ℕ) (v : Vector) → resize w (extend_vector Sign w v) ≡ extend_vector Sign w v
resize-extended w v = resize_same w (extend_vector Sign w v) (length-extended Sign w v)

-- a vector at its own width
take_front : (v u : Vector) → take (length v) (v ++ u) ≡ v
take_front [] u = refl
take_front (d ∷ v) u = ap (λ x. d ∷ x) (take_front v u)

pub extended_same : (by : Extension) (v : Vector) → extend_vector by (length v) v ≡ v
extended_same by v = take_front v (replicate (length v) (extension_digit by v))

-- zeros stay zeros at any width
pub zeros_resized : (w n : ℕ) → resize w (vector n 0) ≡ vector w 0
zeros_resized zero n = refl
zeros_resized (suc w) zero = ap (λ u. Zero ∷ u) (zeros_resized w zero)
zeros_resized (suc w) (suc n) = ap (λ u. Zero ∷ u) (zeros_resized w n)

zero_at : (n k : ℕ) → k < n → select_digit (vector n 0) k ≡ Zero
zero_at zero k h = absurd (omega (arith, h))
zero_at (suc n) zero h = refl
zero_at (suc n) (suc k) h = zero_at n k (omega (arith, h))

all_zeros : (m w : ℕ) → w ≤ m → take w (replicate m Zero) ≡ vector w 0
all_zeros m zero h = refl
all_zeros zero (suc w) h = absurd (omega (arith, h))
all_zeros (suc m) (suc w) h = ap (λ u. Zero ∷ u) (all_zeros m w (omega (arith, h)))

zeros_before : (n m w : ℕ) → w ≤ n + m → take w (vector n 0 ++ replicate m Zero) ≡ vector w 0
zeros_before zero m w h = all_zeros m w (omega (arith, h))
zeros_before (suc n) m zero h = refl
zeros_before (suc n) m (suc w) h = ap (λ u. Zero ∷ u) (zeros_before n m w (omega (arith, h)))

pub zeros_extended : (w n : ℕ) → 1 ≤ n → extend_vector Sign w (vector n 0) ≡ vector w 0
zeros_extended w n some =
    let last : select_digit (vector n 0) (length (vector n 0) - 1) ≡ Zero = zero_at n (length (vector n 0) - 1) (omega (arith, some, length-vector n 0)) in
    ap (λ d. take w (vector n 0 ++ replicate w d)) last ∙ zeros_before n w w (omega arith)

-- Vectors extended by copies of a digit.
use Rattle.std.proofs.Common.{◌≡◌, ℕ, zero, suc, ◌+◌, ◌-◌, ◌/◌, ◌%◌, ◌^◌, ◌≤◌, [], ◌∷◌, ◌++◌, length, take, replicate, refl, sym, ◌∙◌, ap, arith}
use Rattle.std.proofs.Math.Nat.{pow-suc}
use Rattle.std.proofs.lemmas.Nat.{pow_pos}
use Rattle.std.proofs.lemmas.List.{take-replicate}
use Rattle.logic4.specs.declared.digit.Digit.{Digit}
use Rattle.logic4.specs.declared.digit.Digit.TheVariants.{Zero, One, Z}
use Rattle.logic4.specs.Vector.{Vector, resize}
use Rattle.logic4.specs.Operators.{select_digit, same_digit, concat_vector}
use Rattle.logic4.specs.Extensions.{sign_digit, extended_with, sign_extended}
use Rattle.logic4.specs.Signed.{is_negative}
use Rattle.logic4.specs.VectorWords.{pair_digit, of_words}

-- ---- one digit at each place

ones_low : (w : ℕ) → (2 ^ suc w - 1) % 2 ≡ 1
ones_low w = omega (arith, pow-suc 2 w, pow_pos w)

ones_high : (w : ℕ) → (2 ^ suc w - 1) / 2 ≡ 2 ^ w - 1
ones_high w = omega (arith, pow-suc 2 w, pow_pos w)

pub of_words-first : (w m : ℕ) → m ≡ 2 ^ w - 1 → of_words w m 0 ≡ replicate w One
of_words-first zero m h = refl
of_words-first (suc w) m h =
    let low : m % 2 ≡ 1 = ap (λ k. k % 2) h ∙ ones_low w in
    let high : m / 2 ≡ 2 ^ w - 1 = ap (λ k. k / 2) h ∙ ones_high w in
    let rest : of_words w (m / 2) 0 ≡ replicate w One = of_words-first w (m / 2) high in
    λ k. pair_digit (low k) 0 ∷ rest k

pub of_words-second : (w m : ℕ) → m ≡ 2 ^ w - 1 → of_words w 0 m ≡ replicate w Z
of_words-second zero m h = refl
of_words-second (suc w) m h =
    let low : m % 2 ≡ 1 = ap (λ k. k % 2) h ∙ ones_low w in
    let high : m / 2 ≡ 2 ^ w - 1 = ap (λ k. k / 2) h ∙ ones_high w in
    let rest : of_words w 0 (m / 2) ≡ replicate w Z = of_words-second w (m / 2) high in
    λ k. pair_digit 0 (low k) ∷ rest k

-- ---- a greater and a smaller width

longer : (d : Digit) (n m : ℕ) (v : Vector) → length v ≤ n → n ≤ length v + m → take n (v ++ replicate m d) ≡ v ++ replicate (n - length v) d
longer d n m [] h j =
    let all : n ≡ n - zero = omega arith in
    take-replicate n m d (omega arith) ∙ ap (λ k. replicate k d) all
longer d zero m (e ∷ v) h j = absurd (omega arith)
longer d (suc n) m (e ∷ v) h j =
    let rest : n - length v ≡ suc n - suc (length v) = omega arith in
    ap (λ u. e ∷ u) (longer d n m v (omega arith) (omega arith)) ∙ ap (λ k. e ∷ (v ++ replicate k d)) rest

shorter : (d : Digit) (n m : ℕ) (v : Vector) → n ≤ length v → take n (v ++ replicate m d) ≡ resize n v
shorter d zero m v h = refl
shorter d (suc n) m [] h = absurd (omega arith)
shorter d (suc n) m (e ∷ v) h = ap (λ u. e ∷ u) (shorter d n m v (omega arith))

zeros : (n m : ℕ) (v : Vector) → n ≤ length v + m → take n (v ++ replicate m Zero) ≡ resize n v
zeros zero m v h = refl
zeros (suc n) zero [] h = absurd (omega arith)
zeros (suc n) (suc m) [] h = ap (λ u. Zero ∷ u) (zeros n m [] (omega arith))
zeros (suc n) m (e ∷ v) h = ap (λ u. e ∷ u) (zeros n m v (omega arith))

pub by_zeros : (n : ℕ) (v : Vector) → resize n v ≡ extended_with Zero n v
by_zeros n v = sym (zeros n n v (omega arith))

pub by_sign_cut : (n : ℕ) (v : Vector) → n ≤ length v → resize n v ≡ sign_extended n v
by_sign_cut n v h = sym (shorter (sign_digit v) n n v h)

-- a vector behind which stand copies of its sign
pub by_sign : (v high : Vector) (n own : ℕ) (s : Digit) → own ≡ length v → own ≤ n → s ≡ select_digit v (own - 1) → high ≡ replicate (n - own) s
    → concat_vector high v ≡ sign_extended n v
by_sign v high n own s width wide sign copies =
    let digit : s ≡ sign_digit v = sign ∙ ap (λ k. select_digit v (k - 1)) width in
    ap (λ u. v ++ u) copies ∙ (λ k. v ++ replicate (n - width k) (digit k))
    ∙ sym (longer (sign_digit v) n n v (omega arith) (omega arith))

-- what a test of the most significant digit says
pub sign_test : (v : Vector) (own : ℕ) (d : Digit) → d ≡ select_digit v (own - 1) → own ≡ length v → same_digit d One ≡ is_negative v
sign_test v own d e width = ap (λ t. same_digit t One) (e ∙ ap (λ k. select_digit v (k - 1)) width)

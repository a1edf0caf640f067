-- Two words that hold a vector: digit i is the pair of bit i of both, where 0 is 00, 1 is 10, z is 01 and x is 11.
use Rattle.std.specs.Prelude.{◌≡◌, ℕ, zero, suc, ◌+◌, ◌*◌, ◌/◌, ◌%◌, ◌^◌, ◌<◌, ◌≤◌, [], ◌∷◌, length, refl}
use Rattle.std.proofs.Common.{ap, arith, ◌∙◌}
use Rattle.std.proofs.Math.Nat.{pow-suc}
use Rattle.logic4.specs.declared.digit.Digit.{Digit}
use Rattle.logic4.specs.declared.digit.Digit.TheVariants.{Zero, One, X, Z}
use Rattle.logic4.specs.Vector.{Vector, greatest_width}

-- the digit of a bit of the first word and one of the second
abbrev pub pair_digit : ℕ → ℕ → Digit
pair_digit zero zero = Zero
pair_digit (suc m) zero = One
pair_digit zero (suc n) = Z
pair_digit (suc m) (suc n) = X

-- the vector of a width that two words hold
abbrev pub of_words : ℕ → ℕ → ℕ → Vector
of_words zero a b = []
of_words (suc width) a b = pair_digit (a % 2) (b % 2) ∷ of_words width (a / 2) (b / 2)

-- the bit of a digit in the first word
abbrev pub first_bit : Digit → ℕ
first_bit Zero = 0
first_bit One = 1
first_bit X = 1
first_bit Z = 0

-- the bit of a digit in the second word
abbrev pub second_bit : Digit → ℕ
second_bit Zero = 0
second_bit One = 0
second_bit X = 1
second_bit Z = 1

-- the first word of a vector
abbrev pub first_word : Vector → ℕ
first_word [] = 0
first_word (d ∷ v) = first_bit d + 2 * first_word v

-- the second word of a vector
abbrev pub second_word : Vector → ℕ
second_word [] = 0
second_word (d ∷ v) = second_bit d + 2 * second_word v

-- what every pair of words keeps: the bits past the width are 0
pub record AreWords (width a b : ℕ) : Type 0 where
  pub some : 1 ≤ width
  pub within : width ≤ greatest_width
  pub first : a < 2 ^ width
  pub second : b < 2 ^ width

-- the words of a vector of words are those words
pub length-of_words : (w a b : ℕ) → length (of_words w a b) ≡ w
length-of_words zero a b = refl
length-of_words (suc w) a b = ap suc (length-of_words w (a / 2) (b / 2))

pub first_bit-pair_digit : (p q : ℕ) → p < 2 → first_bit (pair_digit p q) ≡ p
first_bit-pair_digit zero zero h = refl
first_bit-pair_digit zero (suc q) h = refl
first_bit-pair_digit (suc zero) zero h = refl
first_bit-pair_digit (suc zero) (suc q) h = refl
first_bit-pair_digit (suc (suc p)) q h = absurd (omega arith)

pub second_bit-pair_digit : (p q : ℕ) → q < 2 → second_bit (pair_digit p q) ≡ q
second_bit-pair_digit zero zero h = refl
second_bit-pair_digit (suc p) zero h = refl
second_bit-pair_digit zero (suc zero) h = refl
second_bit-pair_digit (suc p) (suc zero) h = refl
second_bit-pair_digit p (suc (suc q)) h = absurd (omega arith)

pub first_word-of_words : (w a b : ℕ) → a < 2 ^ w → first_word (of_words w a b) ≡ a
first_word-of_words zero a b h = omega arith
first_word-of_words (suc w) a b h =
    omega (arith, first_bit-pair_digit (a % 2) (b % 2) (omega arith), first_word-of_words w (a / 2) (b / 2) (omega (arith, pow-suc 2 w)))

pub second_word-of_words : (w a b : ℕ) → b < 2 ^ w → second_word (of_words w a b) ≡ b
second_word-of_words zero a b h = omega arith
second_word-of_words (suc w) a b h =
    omega (arith, second_bit-pair_digit (a % 2) (b % 2) (omega arith), second_word-of_words w (a / 2) (b / 2) (omega (arith, pow-suc 2 w)))

-- every vector is the vector of its words
pub of_words-words : (v : Vector) → of_words (length v) (first_word v) (second_word v) ≡ v
of_words-words [] = refl
of_words-words (d ∷ v) =
    let first : (first_bit d + 2 * first_word v) % 2 ≡ first_bit d = omega (arith, bits_below d) in
    let second : (second_bit d + 2 * second_word v) % 2 ≡ second_bit d = omega (arith, bits_below d) in
    let first_rest : (first_bit d + 2 * first_word v) / 2 ≡ first_word v = omega (arith, bits_below d) in
    let second_rest : (second_bit d + 2 * second_word v) / 2 ≡ second_word v = omega (arith, bits_below d) in
    (λ k. pair_digit (first k) (second k) ∷ of_words (length v) (first_rest k) (second_rest k))
    ∙ (λ k. pair_digit-bits d k ∷ of_words-words v k)
  where
    bits_below : (d : Digit) → (first_bit d < 2) × (second_bit d < 2)
    bits_below Zero = (omega arith, omega arith)
    bits_below One = (omega arith, omega arith)
    bits_below X = (omega arith, omega arith)
    bits_below Z = (omega arith, omega arith)

    pair_digit-bits : (d : Digit) → pair_digit (first_bit d) (second_bit d) ≡ d
    pair_digit-bits Zero = refl
    pair_digit-bits One = refl
    pair_digit-bits X = refl
    pair_digit-bits Z = refl

-- The reductions of a vector of words.
use Rattle.std.proofs.Common.{◌≡◌, ◌≢◌, ℕ, zero, suc, ◌+◌, ◌-◌, ◌*◌, ◌/◌, ◌%◌, ◌^◌, ◌<◌, inl, inr, bit_or, [], ◌∷◌, refl, sym, ◌∙◌, ap, arith}
use Rattle.std.proofs.Math.Nat.{pow-suc}
use Rattle.std.proofs.lemmas.Nat.{pow_pos, ones_cat}
use Rattle.std.proofs.lemmas.Bool.{cases_eq}
use Rattle.std.specs.Int.Bits.{or_step}
use Rattle.std.specs.Int.Count.{ones, ones_in}
use Rattle.std.specs.Int.RustNames.{count_ones}
use Rattle.logic4.specs.declared.digit.Digit.{Digit}
use Rattle.logic4.specs.declared.digit.Digit.TheVariants.{Zero, One, X, Z}
use Rattle.logic4.specs.declared.digit.Truth.{Truth}
use Rattle.logic4.specs.declared.digit.Truth.TheVariants.{False, True, Unknown}
use Rattle.logic4.specs.Vector.{Vector, bit_digit}
use Rattle.logic4.specs.Operators.{and_digit, or_digit, xor_digit, reduce_and, reduce_or, reduce_xor, truth, truth_after, truth_digit}
use Rattle.logic4.specs.VectorWords.{pair_digit, of_words}

-- ---- one digit and what is known of the others

one_and : (p q : ℕ) (r : Digit) → p ≢ 0 → q ≡ 0 → r ≡ One → and_digit (pair_digit p q) r ≡ One
one_and zero q r hp hq e = absurd (hp refl)
one_and (suc p) zero r hp hq e = ap (and_digit One) e
one_and (suc p) (suc q) r hp hq e = absurd (omega arith)

one_and_x : (p q : ℕ) (r : Digit) → p ≢ 0 → q ≡ 0 → r ≡ X → and_digit (pair_digit p q) r ≡ X
one_and_x zero q r hp hq e = absurd (hp refl)
one_and_x (suc p) zero r hp hq e = ap (and_digit One) e
one_and_x (suc p) (suc q) r hp hq e = absurd (omega arith)

x_and_one : (p q : ℕ) (r : Digit) → q ≢ 0 → r ≡ One → and_digit (pair_digit p q) r ≡ X
x_and_one p zero r hq e = absurd (hq refl)
x_and_one zero (suc q) r hq e = ap (and_digit Z) e
x_and_one (suc p) (suc q) r hq e = ap (and_digit X) e

x_and_x : (p q : ℕ) (r : Digit) → q ≢ 0 → r ≡ X → and_digit (pair_digit p q) r ≡ X
x_and_x p zero r hq e = absurd (hq refl)
x_and_x zero (suc q) r hq e = ap (and_digit Z) e
x_and_x (suc p) (suc q) r hq e = ap (and_digit X) e

zero_and : (p q : ℕ) (r : Digit) → p ≡ 0 → q ≡ 0 → and_digit (pair_digit p q) r ≡ Zero
zero_and zero zero r hp hq = refl
zero_and (suc p) q r hp hq = absurd (omega arith)
zero_and p (suc q) r hp hq = absurd (omega arith)

and_zero : (d r : Digit) → r ≡ Zero → and_digit d r ≡ Zero
and_zero Zero r e = refl
and_zero One r e = ap (and_digit One) e
and_zero X r e = ap (and_digit X) e
and_zero Z r e = ap (and_digit Z) e

-- ---- and

ones_low : (w : ℕ) → (2 ^ suc w - 1) % 2 ≡ 1
ones_low w = omega (arith, pow-suc 2 w, pow_pos w)

ones_high : (w : ℕ) → (2 ^ suc w - 1) / 2 ≡ 2 ^ w - 1
ones_high w = omega (arith, pow-suc 2 w, pow_pos w)

pub and_all_ones : (w a b : ℕ) → bit_or a b ≡ 2 ^ w - 1 → b ≡ 0 → One ≡ reduce_and (of_words w a b)
and_all_ones zero a b h known = refl
and_all_ones (suc w) a b h known =
    let rest = and_all_ones w (a / 2) (b / 2) (omega (arith, or_step a b, ones_high w)) (omega arith) in
    sym (one_and (a % 2) (b % 2) _ (omega (arith, or_step a b, ones_low w)) (omega arith) (sym rest))

pub and_unknown : (w a b : ℕ) → b < 2 ^ w → bit_or a b ≡ 2 ^ w - 1 → b ≢ 0 → X ≡ reduce_and (of_words w a b)
and_unknown zero a b fits h x = absurd (omega arith)
and_unknown (suc w) a b fits h x =
    let high : bit_or (a / 2) (b / 2) ≡ 2 ^ w - 1 = omega (arith, or_step a b, ones_high w) in
    elim (cases_eq (b / 2) 0) [
      | inl none ↦ sym (x_and_one (a % 2) (b % 2) _ (λ e. x (omega arith)) (sym (and_all_ones w (a / 2) (b / 2) high none)))
      | inr some ↦
          let rest = and_unknown w (a / 2) (b / 2) (omega (arith, pow-suc 2 w)) high some in
          elim (cases_eq (b % 2) 0) [
            | inl even ↦ sym (one_and_x (a % 2) (b % 2) _ (omega (arith, or_step a b, ones_low w)) even (sym rest))
            | inr odd ↦ sym (x_and_x (a % 2) (b % 2) _ odd (sym rest))
          ]
    ]

pub and_some_zero : (w a b : ℕ) → a < 2 ^ w → b < 2 ^ w → bit_or a b ≢ 2 ^ w - 1 → Zero ≡ reduce_and (of_words w a b)
and_some_zero zero a b fa fb h =
    let first : a ≡ 0 = omega arith in
    let second : b ≡ 0 = omega arith in
    absurd (h (λ k. bit_or (first k) (second k)))
and_some_zero (suc w) a b fa fb h =
    elim (cases_eq (bit_or a b % 2) 0) [
      | inl even ↦ sym (zero_and (a % 2) (b % 2) _ (omega (arith, or_step a b)) (omega (arith, or_step a b)))
      | inr odd ↦
          let rest =
          and_some_zero w (a / 2) (b / 2) (omega (arith, pow-suc 2 w)) (omega (arith, pow-suc 2 w))
          (λ e. h (omega (arith, or_step a b, pow-suc 2 w, pow_pos w))) in
          sym (and_zero _ _ (sym rest))
    ]

-- ---- or

or_one : (d r : Digit) → r ≡ One → or_digit d r ≡ One
or_one One r e = refl
or_one Zero r e = ap (or_digit Zero) e
or_one X r e = ap (or_digit X) e
or_one Z r e = ap (or_digit Z) e

one_or : (p q : ℕ) (r : Digit) → p ≢ 0 → q ≡ 0 → or_digit (pair_digit p q) r ≡ One
one_or zero q r hp hq = absurd (hp refl)
one_or (suc p) zero r hp hq = refl
one_or (suc p) (suc q) r hp hq = absurd (omega arith)

zero_or : (p q : ℕ) (r s : Digit) → p ≡ 0 → q ≡ 0 → r ≡ s → or_digit Zero s ≡ s → or_digit (pair_digit p q) r ≡ s
zero_or zero zero r s hp hq e same = ap (or_digit Zero) e ∙ same
zero_or (suc p) q r s hp hq e same = absurd (omega arith)
zero_or p (suc q) r s hp hq e same = absurd (omega arith)

x_or : (p q : ℕ) (r s : Digit) → q ≢ 0 → r ≡ s → or_digit X s ≡ X → or_digit Z s ≡ X → or_digit (pair_digit p q) r ≡ X
x_or p zero r s hq e x z = absurd (hq refl)
x_or zero (suc q) r s hq e x z = ap (or_digit Z) e ∙ z
x_or (suc p) (suc q) r s hq e x z = ap (or_digit X) e ∙ x

pub or_zeros : (w a b : ℕ) → bit_or a b ≡ b → b ≡ 0 → Zero ≡ reduce_or (of_words w a b)
or_zeros zero a b h known = refl
or_zeros (suc w) a b h known =
    sym (zero_or (a % 2) (b % 2) _ Zero (omega (arith, or_step a b)) (omega arith) (sym (or_zeros w (a / 2) (b / 2) (omega (arith, or_step a b)) (omega arith))) refl)

pub or_unknown : (w a b : ℕ) → b < 2 ^ w → bit_or a b ≡ b → b ≢ 0 → X ≡ reduce_or (of_words w a b)
or_unknown zero a b fits h x = absurd (omega arith)
or_unknown (suc w) a b fits h x =
    let high : bit_or (a / 2) (b / 2) ≡ b / 2 = omega (arith, or_step a b) in
    elim (cases_eq (b / 2) 0) [
      | inl none ↦ sym (x_or (a % 2) (b % 2) _ Zero (λ e. x (omega arith)) (sym (or_zeros w (a / 2) (b / 2) high none)) refl refl)
      | inr some ↦
          let rest = or_unknown w (a / 2) (b / 2) (omega (arith, pow-suc 2 w)) high some in
          elim (cases_eq (b % 2) 0) [
            | inl even ↦ sym (zero_or (a % 2) (b % 2) _ X (omega (arith, or_step a b)) even (sym rest) refl)
            | inr odd ↦ sym (x_or (a % 2) (b % 2) _ X odd (sym rest) refl refl)
          ]
    ]

pub or_some_one : (w a b : ℕ) → a < 2 ^ w → b < 2 ^ w → bit_or a b ≢ b → One ≡ reduce_or (of_words w a b)
or_some_one zero a b fa fb h =
    let first : a ≡ 0 = omega arith in
    let second : b ≡ 0 = omega arith in
    absurd (h ((λ k. bit_or (first k) (second k)) ∙ sym second))
or_some_one (suc w) a b fa fb h =
    elim (cases_eq (bit_or (a / 2) (b / 2)) (b / 2)) [
      | inl same ↦ sym (one_or (a % 2) (b % 2) _ (λ e. h (omega (arith, or_step a b))) (one_digit same))
      | inr other ↦ sym (or_one _ _ (sym (or_some_one w (a / 2) (b / 2) (omega (arith, pow-suc 2 w)) (omega (arith, pow-suc 2 w)) other)))
    ]
  where
    one_digit : bit_or (a / 2) (b / 2) ≡ b / 2 → b % 2 ≡ 0
    one_digit same = elim (cases_eq (b % 2) 0) [ inl even ↦ even | inr odd ↦ absurd (h (omega (arith, or_step a b))) ]

-- the truth of a vector is the reduction by or
truth_or : (d : Digit) (t : Truth) → truth_digit (truth_after d t) ≡ or_digit d (truth_digit t)
truth_or Zero False = refl
truth_or Zero True = refl
truth_or Zero Unknown = refl
truth_or One t = refl
truth_or X False = refl
truth_or X True = refl
truth_or X Unknown = refl
truth_or Z False = refl
truth_or Z True = refl
truth_or Z Unknown = refl

pub truth_digit-truth : (v : Vector) → truth_digit (truth v) ≡ reduce_or v
truth_digit-truth [] = refl
truth_digit-truth (d ∷ v) = truth_or d (truth v) ∙ ap (or_digit d) (truth_digit-truth v)

-- ---- exclusive or

xor_known : (p q : ℕ) → p < 2 → q < 2 → xor_digit (pair_digit p 0) (bit_digit q) ≡ bit_digit ((q + p) % 2)
xor_known zero zero hp hq = refl
xor_known zero (suc zero) hp hq = refl
xor_known (suc zero) zero hp hq = refl
xor_known (suc zero) (suc zero) hp hq = refl
xor_known (suc (suc p)) q hp hq = absurd (omega arith)
xor_known p (suc (suc q)) hp hq = absurd (omega arith)

xor_x : (p q : ℕ) (r : Digit) → q ≢ 0 → xor_digit (pair_digit p q) r ≡ X
xor_x p zero r h = absurd (h refl)
xor_x zero (suc q) r h = refl
xor_x (suc p) (suc q) r h = refl

xor_with_x : (d r : Digit) → r ≡ X → xor_digit d r ≡ X
xor_with_x Zero r e = ap (xor_digit Zero) e
xor_with_x One r e = ap (xor_digit One) e
xor_with_x X r e = refl
xor_with_x Z r e = refl

ones_low_bit : (p : ℕ) → p < 2 → count_ones p ≡ p
unfolding ones ones_in
ones_low_bit zero h = refl
ones_low_bit (suc zero) h = refl
ones_low_bit (suc (suc p)) h = absurd (omega arith)

zero_ones : bit_digit (count_ones 0 % 2) ≡ Zero
unfolding ones ones_in
zero_ones = refl

ones_step : (a : ℕ) → count_ones a ≡ count_ones (a / 2) + a % 2
ones_step a =
    let whole : a ≡ a / 2 * 2 ^ 1 + a % 2 = omega arith in
    ap count_ones whole ∙ ones_cat 1 (a / 2) (a % 2) (omega arith) ∙ ap (λ k. count_ones (a / 2) + k) (ones_low_bit (a % 2) (omega arith))

pub xor_parity : (w a : ℕ) → a < 2 ^ w → reduce_xor (of_words w a 0) ≡ bit_digit (count_ones a % 2)
xor_parity zero a h =
    let none : a ≡ 0 = omega arith in
    sym (ap (λ k. bit_digit (count_ones k % 2)) none ∙ zero_ones)
xor_parity (suc w) a h =
    let q : ℕ = count_ones (a / 2) in
    let sum : (q % 2 + a % 2) % 2 ≡ count_ones a % 2 = omega (arith, ones_step a) in
    ap (xor_digit (pair_digit (a % 2) 0)) (xor_parity w (a / 2) (omega (arith, pow-suc 2 w)))
    ∙ xor_known (a % 2) (q % 2) (omega arith) (omega arith) ∙ ap bit_digit sum

pub xor_unknown : (w a b : ℕ) → b < 2 ^ w → b ≢ 0 → X ≡ reduce_xor (of_words w a b)
xor_unknown zero a b fits h = absurd (omega arith)
xor_unknown (suc w) a b fits h =
    elim (cases_eq (b % 2) 0) [
      | inl even ↦ sym (xor_with_x _ _ (sym (xor_unknown w (a / 2) (b / 2) (omega (arith, pow-suc 2 w)) (λ e. h (omega arith)))))
      | inr odd ↦ sym (xor_x (a % 2) (b % 2) _ odd)
    ]

pub xor_known_at : (w a b n : ℕ) → a < 2 ^ w → b ≡ 0 → count_ones a % 2 ≡ n → bit_digit n ≡ reduce_xor (of_words w a b)
xor_known_at w a b n fits none e = sym (ap bit_digit e) ∙ sym (xor_parity w a fits) ∙ sym (ap (λ k. reduce_xor (of_words w a k)) none)

-- ---- truth

truth_digit-injective : (s t : Truth) → truth_digit s ≡ truth_digit t → s ≡ t
truth_digit-injective False False h = refl
truth_digit-injective True True h = refl
truth_digit-injective Unknown Unknown h = refl
truth_digit-injective False True h = absurd (cc)
truth_digit-injective False Unknown h = absurd (cc)
truth_digit-injective True False h = absurd (cc)
truth_digit-injective True Unknown h = absurd (cc)
truth_digit-injective Unknown False h = absurd (cc)
truth_digit-injective Unknown True h = absurd (cc)

pub truth_is : (v : Vector) (t : Truth) → truth_digit t ≡ reduce_or v → t ≡ truth v
truth_is v t h = truth_digit-injective t (truth v) (h ∙ sym (truth_digit-truth v))

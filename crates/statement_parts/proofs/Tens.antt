-- Numbers multiplied by ten so often, and divided by it and rounded.
use Rattle.std.proofs.Common.{◌≡◌, ℕ, zero, suc, ◌+◌, ◌-◌, ◌*◌, ◌/◌, ◌%◌, ◌^◌, ◌<◌, ◌≤◌, Option, Some, None, IfSome, MatchOption, arith, ap, sym, ◌∙◌, refl, subst, lit<}
use Rattle.std.proofs.Math.Nat.{pow-suc, one-le-pow, mul_assoc, mul_comm, div-add-mod, mod-lt, le-mul_of_pos_right, mul-le-mul_right, mul-lt-mul_of_pos_right, mul-add}
use Rattle.std.proofs.lemmas.Nat.{pow-add}
use Rattle.std.proofs.Math.Numerals.{sub-one}
use Rattle.statement_parts.specs.declared.scales.Decimal.{Decimal}
use Rattle.statement_parts.specs.declared.scales.TimeScale.{TimeScale}
use Rattle.statement_parts.specs.Scales.{IsRounded, IsScaled, longest}

-- ten times one power less
tens_suc : (n p : ℕ) → n * 10 * 10 ^ p ≡ n * 10 ^ suc p
tens_suc n p = mul_assoc n 10 (10 ^ p) ∙ ap (λ x. n * x) (mul_comm 10 (10 ^ p) ∙ sym (pow-suc 10 p))

tens : (n p : ℕ) → 0 < p → n * 10 * 10 ^ (p - 1) ≡ n * 10 ^ p
tens n zero h = absurd (omega (arith, h))
tens n (suc p) h = ap (λ k. n * 10 * 10 ^ k) (sub-one (suc p)) ∙ tens_suc n p

-- what is longer stays longer
pub long_in_tens : (n p : ℕ) → longest < n → longest < n * 10 ^ p
long_in_tens n p h = let more : n ≤ n * 10 ^ p = le-mul_of_pos_right n (one-le-pow p 10 (lit< tt)) in omega (arith, h, more)

pub further_in_tens : (r : Option ℕ) (n p : ℕ) → 0 < p → MatchOption r (longest < n * 10 * 10 ^ (p - 1)) (λ found. found ≡ n * 10 * 10 ^ (p - 1)) → MatchOption r (longest < n * 10 ^ p) (λ found. found ≡ n * 10 ^ p)
further_in_tens r n p h found = subst (λ (x : ℕ). MatchOption r (longest < x) (λ found. found ≡ x)) (tens n p h) found

-- A number without its last digit is rounded to the same, where a digit more is left out.
without_last : (n q s d e r x : ℕ) → 10 * q + s ≡ n → s < 10 → d ≡ e * 10 → 2 * x ≤ 2 * q + d → 2 * q + d < 2 * (x + d) → x ≡ r * d → IsRounded n (d * 10) r
without_last n q s d e r x parts less ten low high is =
    let y : r * (d * 10) ≡ x * 10 = sym (mul_assoc r d 10) ∙ ap (λ z. z * 10) (sym is) in
    record { no_more = omega (arith, parts, less, low, y); no_less = omega (arith, parts, less, ten, high, y) }

pub rounded_further : (n p r : ℕ) → 1 < p → IsRounded (n / 10) (10 ^ (p - 1)) r → IsRounded n (10 ^ p) r
rounded_further n zero r h is = absurd (omega (arith, h))
rounded_further n (suc zero) r h is = absurd (omega (arith, h))
rounded_further n (suc (suc p)) r h is =
    let less_one : suc (suc p) - 1 ≡ suc p = sub-one (suc (suc p)) in
    let inner : IsRounded (n / 10) (10 ^ suc p) r = subst (λ (k : ℕ). IsRounded (n / 10) (10 ^ k) r) less_one is in
    subst (λ (d : ℕ). IsRounded n d r) (sym (pow-suc 10 (suc p)))
    (without_last n (n / 10) (n % 10) (10 ^ suc p) (10 ^ p) r (r * 10 ^ suc p) (div-add-mod n 10) (mod-lt n (lit< tt)) (pow-suc 10 p) inner.no_more inner.no_less refl)

-- a power in two parts
power_parts : (more less : ℕ) → less ≤ more → 10 ^ more ≡ 10 ^ (more - less) * 10 ^ less
power_parts more less h = let sum : more ≡ (more - less) + less = omega (arith, h) in ap (λ k. 10 ^ k) sum ∙ pow-add 10 (more - less) less

-- no digit is left out
pub rounded_exactly : (n up behind whole : ℕ) → behind ≤ up → whole ≡ n * 10 ^ (up - behind) → IsRounded (n * 10 ^ up) (10 ^ behind) whole
rounded_exactly n up behind whole h is =
    let e : n * 10 ^ up ≡ whole * 10 ^ behind = ap (λ x. n * x) (power_parts up behind h) ∙ sym (mul_assoc n (10 ^ (up - behind)) (10 ^ behind)) ∙ ap (λ x. x * 10 ^ behind) (sym is) in
    let some : 1 ≤ 10 ^ behind = one-le-pow behind 10 (lit< tt) in
    record { no_more = omega (arith, e); no_less = omega (arith, e, some) }

right_parts : (a b f : ℕ) → (a + b) * f ≡ a * f + b * f
right_parts a b f = mul_comm (a + b) f ∙ mul-add f a b ∙ ap (λ x. x + f * b) (mul_comm f a) ∙ ap (λ x. a * f + x) (mul_comm f b)

-- numerator and denominator multiplied alike
rounded_alike : (n d r f : ℕ) → 0 < f → IsRounded n d r → IsRounded (n * f) (d * f) r
rounded_alike n d r f some is =
    let x : r * (d * f) ≡ r * d * f = sym (mul_assoc r d f) in
    let two_x : 2 * (r * d) * f ≡ 2 * (r * d * f) = mul_assoc 2 (r * d) f in
    let sides : (2 * n + d) * f ≡ 2 * (n * f) + d * f = right_parts (2 * n) d f ∙ ap (λ y. y + d * f) (mul_assoc 2 n f) in
    let top : 2 * (r * d + d) * f ≡ 2 * (r * d * f + d * f) = mul_assoc 2 (r * d + d) f ∙ ap (λ y. 2 * y) (right_parts (r * d) d f) in
    let low : 2 * (r * d) * f ≤ (2 * n + d) * f = mul-le-mul_right f is.no_more in
    let high : (2 * n + d) * f < 2 * (r * d + d) * f = mul-lt-mul_of_pos_right is.no_less some in
    record { no_more = omega (arith, x, two_x, sides, low); no_less = omega (arith, x, sides, top, high) }

-- digits are left out
pub rounded_off : (n up behind r : ℕ) → up < behind → IsRounded n (10 ^ (behind - up)) r → IsRounded (n * 10 ^ up) (10 ^ behind) r
rounded_off n up behind r h is =
    subst (λ (d : ℕ). IsRounded (n * 10 ^ up) d r) (sym (power_parts behind up (omega (arith, h))))
    (rounded_alike n (10 ^ (behind - up)) r (10 ^ up) (one-le-pow up 10 (lit< tt)) is)

-- what is rounded, in ticks
pub scaled_by : (o : Option ℕ) (number : Decimal) (scale : TimeScale) (up whole : ℕ) → up ≡ scale.unit - scale.precision → IsRounded (number.digits * 10 ^ up) (10 ^ number.behind) whole
    → MatchOption o (longest < whole * 10 ^ scale.precision) (λ ticks. ticks ≡ whole * 10 ^ scale.precision) → IfSome o (IsScaled number scale)
scaled_by None number scale up whole is rounded found = tt
scaled_by (Some ticks) number scale up whole is rounded found = record { rounded = whole; is_rounded = subst (λ (k : ℕ). IsRounded (number.digits * 10 ^ k) (10 ^ number.behind) whole) is rounded; in_ticks = found }

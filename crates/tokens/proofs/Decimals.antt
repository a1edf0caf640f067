-- How great the number of a run of digits may be.
use Rattle.std.proofs.Common.{◌≡◌, ℕ, suc, ◌+◌, ◌-◌, ◌*◌, ◌^◌, ◌<◌, ◌≤◌, List, [], ◌∷◌, length, Bool, true, false, if◌then◌else◌, Option, Some, None, refl, sym, ap, subst, ◌∙◌, arith}
use Rattle.std.specs.Prelude.{nat_lt, nat_le}
use Rattle.std.proofs.Math.Nat.{pow-suc, pow-le-pow_right, mul-le-mul_right, mul_assoc, mul_comm, le_trans}
use Rattle.std.proofs.lemmas.Bool.{and_parts}
use Rattle.std.proofs.lemmas.Bool.Decides.{nat_tests}
use Rattle.logic4.specs.Vector.{greatest_width}
use Rattle.tokens.specs.ByteClasses.{is_digit, all, value_from}
use Rattle.tokens.specs.Literals.{decimal_of}

digit_below : (d : ℕ) → is_digit d ≡ true → d - 48 ≤ 9
digit_below d h = grind (arith, nat_tests)

where_held : (b : Bool) (o : Option ℕ) (m : ℕ) → (if b then o else None) ≡ Some m → o ≡ Some m
where_held true o m h = h
where_held false o m h = absurd (cc)

abbrev held : Option ℕ → ℕ
held None = 0
held (Some n) = n

-- with each digit the number grows at most tenfold
grown : (m n x p : ℕ) → m + 1 ≤ (x + 1) * p → x + 1 ≤ (n + 1) * 10 → m + 1 ≤ (n + 1) * (p * 10)
grown m n x p small step =
    let more : (x + 1) * p ≤ (n + 1) * 10 * p = mul-le-mul_right p step in
    let turned : (n + 1) * 10 * p ≡ (n + 1) * (p * 10) = mul_assoc (n + 1) 10 p ∙ ap (λ t. (n + 1) * t) (mul_comm 10 p) in
    subst (λ t. m + 1 ≤ t) turned (le_trans small more)

value_below : (n : ℕ) (ds : List ℕ) (m : ℕ) → all is_digit ds ≡ true → value_from n ds ≡ Some m → m + 1 ≤ (n + 1) * 10 ^ length ds
value_below n [] m digits is = let e : n ≡ m = ap held is in omega (arith, e)
value_below n (d ∷ ds) m digits is =
    let parts = and_parts (is_digit d) (all is_digit ds) digits in
    let next = n * 10 + (d - 48) in
    let rest : m + 1 ≤ (next + 1) * 10 ^ length ds =
    value_below next ds m parts.1 (where_held (nat_lt next (2 ^ greatest_width)) (value_from next ds) m is) in
    let step : next + 1 ≤ (n + 1) * 10 = omega (arith, digit_below d parts.0) in
    subst (λ t. m + 1 ≤ (n + 1) * t) (sym (pow-suc 10 (length ds))) (grown m n next (10 ^ length ds) rest step)

-- 64 bits hold the number of a plain decimal
pub short_decimal : (ds : List ℕ) (o : Option ℕ) (m : ℕ) → all is_digit ds ≡ true → o ≡ decimal_of ds → o ≡ Some m → m < 2 ^ 64
unfolding decimal_of
short_decimal ds o m digits found is = by (nat_le (length ds) 18) refl (sym found ∙ is)
  where
    by : (b : Bool) → nat_le (length ds) 18 ≡ b → (if b then value_from 0 ds else None) ≡ Some m → m < 2 ^ 64
    by true few value =
        let short : length ds ≤ 18 = grind (arith, nat_tests) in
        let power : 10 ^ length ds ≤ 10 ^ 18 = pow-le-pow_right {n = 10} (omega arith) short in
        omega (arith, value_below 0 ds m digits value, power)
    by false many none = absurd (cc)

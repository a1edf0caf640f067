-- Vectors of words as numbers with signs: their order and their texts.
use Rattle.std.proofs.Common.{◌≡◌, ◌≢◌, ℕ, zero, suc, ◌+◌, ◌-◌, ◌/◌, ◌^◌, ◌<◌, ◌≤◌, Bool, true, false, cond, ltb, inl, inr, ◌∷◌, length, refl, sym, ◌∙◌, ap, subst, arith, pos, negsuc, neg_ℤ}
use Rattle.std.specs.Prelude.{int_lt, decimal}
use Rattle.std.specs.Fmt.{signed_decimal}
use Rattle.std.proofs.Math.Nat.{pow-suc}
use Rattle.std.proofs.lemmas.Nat.{pow_pos}
use Rattle.std.proofs.lemmas.Nat.Bits.{bit_at-zero}
use Rattle.std.proofs.lemmas.Bool.{cases_eq, cases_lt, lt-ltb, le-ltb, false≢true}
use Rattle.std.specs.Int.{bit_at}
use Rattle.logic4.specs.declared.digit.Digit.TheVariants.{One, X}
use Rattle.logic4.specs.Vector.{Vector, number}
use Rattle.logic4.specs.Operators.{select_digit, same_digit}
use Rattle.logic4.specs.Signed.{is_negative, signed_number}
use Rattle.logic4.specs.Display.{unknown_text, decimal_text, signed_text, signed_field}
use Rattle.logic4.specs.VectorWords.{AreWords, pair_digit, of_words}
use Rattle.logic4.proofs.Words.{index-of_words}
use Rattle.logic4.proofs.Pairs.{width_is, is_known_at, is_unknown_at, number_at}

-- ---- order

neg_some : (n : ℕ) → 0 < n → neg_ℤ (pos n) ≡ negsuc (n - 1)
neg_some zero h = absurd (omega arith)
neg_some (suc n) h = let less : n ≡ suc n - 1 = omega arith in ap negsuc less

turned : (n a c : ℕ) → a < n → c < n → ltb a c ≡ ltb (n - c - 1) (n - a - 1)
turned n a c ha hc =
    elim (cases_lt a c) [
      | inl less ↦ lt-ltb a c less ∙ sym (lt-ltb (n - c - 1) (n - a - 1) (omega arith))
      | inr most ↦ le-ltb a c most ∙ sym (le-ltb (n - c - 1) (n - a - 1) (omega arith))
    ]

-- numbers below n, of which those whose sign is true stand for what they lack of it
by_signs : (s t : Bool) (n a c : ℕ) → a < n → c < n
    → cond s (cond t (ltb a c) true) (cond t false (ltb a c)) ≡ int_lt (cond s (neg_ℤ (pos (n - a))) (pos a)) (cond t (neg_ℤ (pos (n - c))) (pos c))
by_signs true true n a c ha hc =
    let left = neg_some (n - a) (omega arith) in
    let right = neg_some (n - c) (omega arith) in
    turned n a c ha hc ∙ sym (λ k. int_lt (left k) (right k))
by_signs true false n a c ha hc = let left = neg_some (n - a) (omega arith) in sym (ap (λ z. int_lt z (pos c)) left)
by_signs false true n a c ha hc = let right = neg_some (n - c) (omega arith) in sym (ap (λ z. int_lt (pos a) z) right)
by_signs false false n a c ha hc = refl

pub signed_less : {v u : Vector} {w a b n c d : ℕ} (p : AreWords w a b) (q : AreWords n c d) (view : of_words w a b ≡ v) (other : of_words n c d ≡ u)
    → b ≡ 0 → d ≡ 0 → length v ≡ length u → (r s t : Bool) → r ≡ cond s (cond t (ltb a c) true) (cond t false (ltb a c))
    → s ≡ is_negative v → t ≡ is_negative u → r ≡ int_lt (signed_number v) (signed_number u)
signed_less {v} {u} {w} {a} {b} {n} {c} {d} p q view other hb hd e r s t is left right =
    let lv : w ≡ length v = width_is p view in
    let lu : w ≡ length u = width_is p view ∙ e in
    let same : n ≡ w = width_is q other ∙ sym lu in
    let nv : a ≡ number v = sym (number_at p view hb) in
    let nu : c ≡ number u = sym (number_at q other hd) in
    let fits : c < 2 ^ w = subst (λ k. c < 2 ^ k) same q.first in
    is ∙ by_signs s t (2 ^ w) a c p.first fits
    ∙ (λ k. int_lt (cond (left k) (neg_ℤ (pos (2 ^ lv k - nv k))) (pos (nv k))) (cond (right k) (neg_ℤ (pos (2 ^ lu k - nu k))) (pos (nu k))))

-- ---- texts

neg_text : (n : ℕ) → 0 < n → signed_decimal (neg_ℤ (pos n)) ≡ 45 ∷ decimal n
neg_text zero h = absurd (omega arith)
neg_text (suc n) h = refl

-- the sign of no digit but zeros
no_sign : (w a b i : ℕ) → i < w → a ≡ 0 → b ≡ 0 → same_digit (select_digit (of_words w a b) i) One ≡ false
no_sign w a b i h ha hb =
    let first : bit_at a i ≡ 0 = ap (λ k. bit_at k i) ha ∙ bit_at-zero i in
    let second : bit_at b i ≡ 0 = ap (λ k. bit_at k i) hb ∙ bit_at-zero i in
    ap (λ d. same_digit d One) (index-of_words w a b i X h ∙ (λ k. pair_digit (first k) (second k)))

half_of : (w : ℕ) → 1 ≤ w → (2 ^ w - 1) / 2 + 1 ≡ 2 ^ (w - 1)
half_of zero h = absurd (omega arith)
half_of (suc w) h =
    let less : w ≡ suc w - 1 = omega arith in
    let half : (2 ^ suc w - 1) / 2 + 1 ≡ 2 ^ w = omega (arith, pow-suc 2 w, pow_pos w) in
    half ∙ ap (λ k. 2 ^ k) less

-- the text of the least number of a width
pub least_text : (w m : ℕ) → 1 ≤ w → m ≡ 2 ^ w - 1 → length (45 ∷ decimal (m / 2 + 1)) ≡ signed_field w
least_text w m some mask =
    let half : m / 2 + 1 ≡ 2 ^ (w - 1) = ap (λ k. k / 2 + 1) mask ∙ half_of w some in
    ap (λ k. length (45 ∷ decimal k)) half ∙ sym (ap length (neg_text (2 ^ (w - 1)) (pow_pos (w - 1))))

module _ {v : Vector} {w a b : ℕ} (p : AreWords w a b) (view : of_words w a b ≡ v) where
  -- a number whose sign is 1 isn't 0
  pub some_where_negative : b ≡ 0 → is_negative v ≡ true → 1 ≤ a
  some_where_negative h sign =
      let last : length v - 1 < w = omega (arith, p.some, width_is p view) in
      elim (cases_eq a 0) [
        | inl none ↦
            let not_negative : is_negative v ≡ false = sym (ap (λ t. same_digit (select_digit t (length v - 1)) One) view) ∙ no_sign w a b (length v - 1) last none h in
            absurd (false≢true (sym not_negative ∙ sign))
        | inr some ↦ omega arith
      ]

  pub least_text_at : (m : ℕ) → m ≡ 2 ^ w - 1 → length (45 ∷ decimal (m / 2 + 1)) ≡ signed_field (length v)
  least_text_at m mask = least_text w m p.some mask ∙ ap signed_field (width_is p view)

  pub negative_text : b ≡ 0 → is_negative v ≡ true → (m : ℕ) → m ≡ 2 ^ w - 1 → 45 ∷ decimal (m - a + 1) ≡ signed_text v
  negative_text h sign m mask =
      let known = is_known_at p view h in
      let len : length v ≡ w = sym (width_is p view) in
      let num = number_at p view h in
      let lacks : m - a + 1 ≡ 2 ^ w - a = omega (arith, p.first, mask) in
      ap (λ n. 45 ∷ decimal n) lacks ∙ sym (neg_text (2 ^ w - a) (omega (arith, p.first)))
      ∙ sym (λ k. cond (known k) (signed_decimal (cond (sign k) (neg_ℤ (pos (2 ^ len k - num k))) (pos (num k)))) (unknown_text v))

  pub positive_text : b ≡ 0 → is_negative v ≡ false → decimal_text v ≡ signed_text v
  positive_text h sign =
      let known = is_known_at p view h in
      (λ k. cond (known k) (decimal (number v)) (unknown_text v))
      ∙ sym (λ k. cond (known k) (signed_decimal (cond (sign k) (neg_ℤ (pos (2 ^ length v - number v))) (pos (number v)))) (unknown_text v))

  pub unknown_signed : b ≢ 0 → decimal_text v ≡ signed_text v
  unknown_signed h =
      let known = is_unknown_at p view h in
      (λ k. cond (known k) (decimal (number v)) (unknown_text v))
      ∙ sym (λ k. cond (known k) (signed_decimal (signed_number v)) (unknown_text v))

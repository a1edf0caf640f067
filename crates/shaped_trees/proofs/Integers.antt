-- The numbers of constants.
use Rattle.std.proofs.Common.{◌≡◌, ◌≢◌, ℕ, zero, suc, ◌-◌, ◌^◌, ◌<◌, Bool, true, false, length, sym, ap, ◌∙◌, arith, None, pos, negsuc, neg_ℤ, if◌then◌else◌}
use Rattle.logic4.specs.Vector.{Vector, is_known, number}
use Rattle.logic4.specs.Signed.{is_negative, signed_number}
use Rattle.logic4.specs.VectorWords.{AreWords, first_word, second_word, of_words-words}
use Rattle.logic4.proofs.Pairs.{is_known_at, is_unknown_at, number_at}
use Rattle.shaped_trees.specs.Integers.{whole_number, short, integer_of}

below_by : (k j : ℕ) → k ≡ suc j → negsuc j ≡ neg_ℤ (pos k)
below_by zero j e = absurd (omega (arith, e))
below_by (suc k) j e = let same : j ≡ k = omega (arith, e) in ap negsuc same

below_none : (n a : ℕ) → a < n → negsuc (n - 1 - a) ≡ neg_ℤ (pos (n - a))
below_none n a h = below_by (n - a) (n - 1 - a) (omega (arith, h))

module _ (v : Vector) (words : AreWords (length v) (first_word v) (second_word v)) where
  known_number : second_word v ≡ 0 → (s : Bool) → integer_of s v ≡ short (whole_number s v)
  known_number h s = ap (λ b. if b then short (whole_number s v) else None) (is_known_at words (of_words-words v) h)

  pub unknown_integer : (s : Bool) → second_word v ≢ 0 → None ≡ integer_of s v
  unknown_integer s h = sym (ap (λ b. if b then short (whole_number s v) else None) (is_unknown_at words (of_words-words v) h))

  pub plain_integer : second_word v ≡ 0 → short (pos (first_word v)) ≡ integer_of false v
  plain_integer h = ap (λ k. short (pos k)) (sym (number_at words (of_words-words v) h)) ∙ sym (known_number h false)

  pub negative_integer : second_word v ≡ 0 → is_negative v ≡ true → (beyond : ℕ) → beyond ≡ 2 ^ length v - 1 - first_word v → short (negsuc beyond) ≡ integer_of true v
  negative_integer h sign beyond e =
      let first : first_word v ≡ number v = sym (number_at words (of_words-words v) h) in
      let is : signed_number v ≡ neg_ℤ (pos (2 ^ length v - number v)) = ap (λ b. if b then neg_ℤ (pos (2 ^ length v - number v)) else pos (number v)) sign in
      ap (λ k. short (negsuc k)) e ∙ ap short (below_none (2 ^ length v) (first_word v) words.first)
      ∙ ap (λ k. short (neg_ℤ (pos (2 ^ length v - k)))) first ∙ ap short (sym is) ∙ sym (known_number h true)

-- digits whose sign isn't 1 have the number that they have without a sign
pub positive_integer : (v : Vector) → is_negative v ≡ false → integer_of false v ≡ integer_of true v
positive_integer v sign = sym (ap (λ b. if is_known v then short (if b then neg_ℤ (pos (2 ^ length v - number v)) else pos (number v)) else None) sign)

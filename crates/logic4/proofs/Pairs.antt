-- Operators at two vectors v and u of one width, by the words that they are views of.
use Rattle.std.proofs.Common.{◌≡◌, ◌≢◌, ℕ, zero, suc, ◌+◌, ◌-◌, ◌*◌, ◌%◌, ◌^◌, ◌<◌, ◌≤◌, bit_and, bit_or, Bool, true, false, ◌&&◌, not, cond, ltb, [], ◌∷◌, length, inl, inr, refl, sym, ◌∙◌, ap, subst, arith}
use Rattle.std.proofs.lemmas.Nat.{le_or_l, le_or_r, pow-add, pow_pos}
use Rattle.std.proofs.lemmas.Bool.{and_from, and_left, and_right, cases_eq, cases_lt, lt-ltb, le-ltb, lt-leb, le-leb}
use Rattle.std.proofs.Math.Dec.{leb}
use Rattle.std.proofs.Math.Nat.{suc-mul}
use Rattle.logic4.specs.declared.digit.Digit.{Digit}
use Rattle.logic4.specs.declared.digit.Digit.TheVariants.{X}
use Rattle.logic4.specs.Vector.{Vector, is_known, number, unknown, vector}
use Rattle.logic4.specs.Operators.{each_digit, each_pair, not_digit, not_vector, where_known, add_vector, sub_vector, digit_where_known, lt_vector, le_vector, bool_digit}
use Rattle.logic4.specs.VectorWords.{AreWords, of_words, length-of_words}
use Rattle.logic4.proofs.Formulas.{Rule, word, word-lt, ruled}
use Rattle.logic4.proofs.Tables.{not_rule}
use Rattle.logic4.proofs.Words.{is_known-of_words, is_unknown-of_words, number-of_words, masked_number, vector-wrap, vector-block}

-- the words of a rule keep their width
pub kept : {f : Digit → Digit → Digit} {w a b n c d : ℕ} → AreWords w a b → AreWords n c d → w ≡ n → (r : Rule f) (m : ℕ) → m ≡ 2 ^ w - 1
    → AreWords w (word m a b c d r.first) (word m a b c d r.second)
kept {w = w} {a = a} {b = b} {c = c} {d = d} p q e r m mask =
    let hc : c < 2 ^ w = subst (λ k. c < 2 ^ k) (sym e) q.first in
    let hd : d < 2 ^ w = subst (λ k. d < 2 ^ k) (sym e) q.second in
    record {
      some = p.some;
      within = p.within;
      first = word-lt w m a b c d mask p.first p.second hc hd r.first;
      second = word-lt w m a b c d mask p.first p.second hc hd r.second;
    }

each_digit-twice : (f : Digit → Digit) (v : Vector) → each_digit f v ≡ each_pair (λ d e. f d) v v
each_digit-twice f [] = refl
each_digit-twice f (d ∷ v) = ap (λ u. f d ∷ u) (each_digit-twice f v)

pub width_is : {v : Vector} {w a b : ℕ} → AreWords w a b → of_words w a b ≡ v → w ≡ length v
width_is {w = w} {a = a} {b = b} p view = sym (length-of_words w a b) ∙ ap length view

pub negated : {v : Vector} {w a b : ℕ} → AreWords w a b → of_words w a b ≡ v → (m : ℕ) → m ≡ 2 ^ w - 1
    → of_words w (word m a b a b not_rule.first) (word m a b a b not_rule.second) ≡ not_vector v
negated {w = w} {a = a} {b = b} p view m mask =
    sym (ruled not_rule w m a b a b mask) ∙ sym (each_digit-twice not_digit (of_words w a b)) ∙ ap not_vector view

pub both_zero : (b d : ℕ) → bit_or b d ≡ 0 → (b ≡ 0) × (d ≡ 0)
both_zero b d h = (omega (arith, le_or_l b d), omega (arith, le_or_r b d))

-- a vector whose second word is 0
pub is_known_at : {v : Vector} {w a b : ℕ} → AreWords w a b → of_words w a b ≡ v → b ≡ 0 → is_known v ≡ true
is_known_at {w = w} {a = a} {b = b} p view h = ap is_known (sym view) ∙ is_known-of_words w a b h

pub is_unknown_at : {v : Vector} {w a b : ℕ} → AreWords w a b → of_words w a b ≡ v → b ≢ 0 → is_known v ≡ false
is_unknown_at {w = w} {a = a} {b = b} p view h = ap is_known (sym view) ∙ is_unknown-of_words w a b p.second h

pub number_at : {v : Vector} {w a b : ℕ} → AreWords w a b → of_words w a b ≡ v → b ≡ 0 → number v ≡ a
number_at {w = w} {a = a} p view h = ap number (sym view) ∙ ap (λ k. number (of_words w a k)) h ∙ number-of_words w a p.first

one_less : (x y : ℕ) → 0 < x → x * y ≡ (x - 1) * y + y
one_less zero y some = absurd (omega arith)
one_less (suc x) y some = let back : x ≡ suc x - 1 = omega arith in suc-mul x y ∙ ap (λ t. t * y + y) back

difference_block : (a c whole high low : ℕ) → whole ≡ high * low + low → c < low → a + (whole - c) ≡ high * low + (a + low - c)
difference_block a c whole high low e small = omega arith

at_most_not_more : (a c : ℕ) → leb a c ≡ not (ltb c a)
at_most_not_more a c =
    elim (cases_lt c a) [
      | inl more ↦ lt-leb a c more ∙ sym (ap not (lt-ltb c a more))
      | inr most ↦ le-leb a c most ∙ sym (ap not (le-ltb c a most))
    ]

module _ {v u : Vector} {w a b n c d : ℕ} (p : AreWords w a b) (q : AreWords n c d) (view : of_words w a b ≡ v) (other : of_words n c d ≡ u) where
  pub one_width : length v ≡ length u → w ≡ n
  one_width e = width_is p view ∙ e ∙ sym (width_is q other)

  pub pairs : length v ≡ length u → {f : Digit → Digit → Digit} (r : Rule f) (m : ℕ) → m ≡ 2 ^ w - 1
      → of_words w (word m a b c d r.first) (word m a b c d r.second) ≡ each_pair f v u
  pairs e {f} r m mask =
      let shifted : of_words w c d ≡ u = ap (λ k. of_words k c d) (one_width e) ∙ other in
      sym (ruled r w m a b c d mask) ∙ (λ k. each_pair f (view k) (shifted k))

  pub both_known : bit_or b d ≡ 0 → (is_known v && is_known u) ≡ true
  both_known h = and_from _ _ (is_known_at p view (both_zero b d h).0) (is_known_at q other (both_zero b d h).1)

  pub one_unknown : bit_or b d ≢ 0 → (is_known v && is_known u) ≡ false
  one_unknown h =
      elim (cases_eq b 0) [
        | inl first ↦
            let second : d ≢ 0 = λ e. h (λ k. bit_or (first k) (e k)) in
            (λ k. is_known v && is_unknown_at q other second k) ∙ and_right (is_known v) false refl
        | inr first ↦ and_left _ _ (is_unknown_at p view first)
      ]

  pub unknown_where : bit_or b d ≢ 0 → (x : ℕ) → unknown w ≡ where_known v u x
  unknown_where h x = ap unknown (width_is p view) ∙ sym (ap (λ t. cond t (vector (length v) x) (unknown (length v))) (one_unknown h))

  pub known_where : bit_or b d ≡ 0 → (x : ℕ) → vector w x ≡ where_known v u x
  known_where h x = ap (λ k. vector k x) (width_is p view) ∙ sym (ap (λ t. cond t (vector (length v) x) (unknown (length v))) (both_known h))

  pub unknown_digit_where : bit_or b d ≢ 0 → (x : Bool) → X ≡ digit_where_known v u x
  unknown_digit_where h x = sym (ap (λ t. cond t (bool_digit x) X) (one_unknown h))

  pub known_digit_where : bit_or b d ≡ 0 → (x : Bool) → bool_digit x ≡ digit_where_known v u x
  known_digit_where h x = sym (ap (λ t. cond t (bool_digit x) X) (both_known h))

  module _ (h : bit_or b d ≡ 0) where
    left_number : number v ≡ a
    left_number = number_at p view (both_zero b d h).0

    right_number : number u ≡ c
    right_number = number_at q other (both_zero b d h).1

    pub less : bool_digit (ltb a c) ≡ lt_vector v u
    less = known_digit_where h (ltb a c) ∙ ap (digit_where_known v u) (sym (λ k. ltb (left_number k) (right_number k)))

    pub at_most : bool_digit (leb a c) ≡ le_vector v u
    at_most =
        ap bool_digit (at_most_not_more a c) ∙ known_digit_where h (not (ltb c a))
        ∙ ap (λ t. digit_where_known v u (not t)) (sym (λ k. ltb (right_number k) (left_number k)))

    module _ (k m : ℕ) (wide : w ≤ k) (mask : m ≡ 2 ^ w - 1) where
      low_words : (x : ℕ) → of_words w (bit_and (x % 2 ^ k) m) 0 ≡ vector w x
      low_words x = masked_number w m (x % 2 ^ k) mask ∙ vector-wrap w k x wide

      pub sum : of_words w (bit_and ((a + c) % 2 ^ k) m) 0 ≡ add_vector v u
      sum = low_words (a + c) ∙ known_where h (a + c) ∙ sym (λ i. where_known v u (left_number i + right_number i))

      pub difference : length v ≡ length u → of_words w (bit_and ((a + (2 ^ k - c)) % 2 ^ k) m) 0 ≡ sub_vector v u
      difference e =
          let lengths : length v ≡ w = sym (width_is p view) in
          let small : c < 2 ^ w = subst (λ j. c < 2 ^ j) (sym (one_width e)) q.first in
          let parts : k ≡ k - w + w = omega arith in
          let high : 2 ^ k ≡ (2 ^ (k - w) - 1) * 2 ^ w + 2 ^ w =
          ap (λ j. 2 ^ j) parts ∙ pow-add 2 (k - w) w ∙ one_less (2 ^ (k - w)) (2 ^ w) (pow_pos (k - w)) in
          let block : a + (2 ^ k - c) ≡ (2 ^ (k - w) - 1) * 2 ^ w + (a + 2 ^ w - c) = difference_block a c (2 ^ k) (2 ^ (k - w) - 1) (2 ^ w) high small in
          low_words (a + (2 ^ k - c)) ∙ ap (vector w) block ∙ vector-block w (2 ^ (k - w) - 1) (a + 2 ^ w - c) ∙ known_where h (a + 2 ^ w - c)
          ∙ sym (λ i. where_known v u (left_number i + 2 ^ lengths i - right_number i))

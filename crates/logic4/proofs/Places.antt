-- Digits that move: one digit, shifts, cuts and concatenation of vectors of words.
use Rattle.std.proofs.Common.{◌≡◌, ◌≢◌, ℕ, zero, suc, ◌+◌, ◌-◌, ◌*◌, ◌/◌, ◌%◌, ◌^◌, ◌<◌, ◌≤◌, min, bit_and, bit_or, ◌&&◌, cond, eqb, not, true, false, [], ◌∷◌, ◌++◌, length, take, drop, replicate, refl, sym, ◌∙◌, ap, subst, arith, eq-eqb}
use lib.Pow.{pow_mono}
use Rattle.std.proofs.lemmas.Nat.{pow_pos, shl_whole, shl_below, shr_below, or_shifted, or_lt}
use Rattle.std.proofs.lemmas.Nat.Bits.{shr_and_one, bit_at-lt}
use Rattle.std.proofs.lemmas.Bool.{and_from, and_parts, eqb-false, eqb-true, not-false, not-true}
use Rattle.std.proofs.lemmas.Bool.Decides.{same_from_decides}
use Rattle.std.proofs.lemmas.List.{take_at, drop_all, length-replicate}
use Rattle.logic4.specs.declared.digit.Digit.TheVariants.{Zero, One, X, Z}
use Rattle.logic4.specs.Vector.{Vector, number, unknown, resize, greatest_width}
use Rattle.logic4.specs.Operators.{left_by, right_by, shl_vector, shr_vector, concat_vector, select_digit, same_vector}
use Rattle.logic4.specs.Sameness.{same_vector-Decides}
use Rattle.logic4.specs.VectorWords.{AreWords, pair_digit, of_words, first_word, second_word, first_word-of_words, second_word-of_words}
use Rattle.logic4.proofs.Words.{of_words-wrap, of_words-zeros, masked, index-of_words, append-of_words, take-of_words, drop-of_words, resize-of_words, shifted-of_words}
use Rattle.logic4.proofs.Pairs.{width_is, is_known_at, is_unknown_at, number_at}

-- ---- one digit

-- what the test `n != 0` says
pub is_some : (n : ℕ) → not (eqb n 0) ≡ true → n ≢ 0
is_some n h = eqb-false n 0 (not-true (eqb n 0) h)

pub is_none : (n : ℕ) → not (eqb n 0) ≡ false → n ≡ 0
is_none n h = eqb-true n 0 (not-false (eqb n 0) h)

pub pair_zero : (p q : ℕ) → p ≡ 0 → q ≡ 0 → Zero ≡ pair_digit p q
pair_zero p q h j = sym (λ k. pair_digit (h k) (j k))

pub pair_one : (p q : ℕ) → p ≢ 0 → q ≡ 0 → One ≡ pair_digit p q
pair_one zero q h j = absurd (h refl)
pair_one (suc p) q h j = sym (ap (pair_digit (suc p)) j)

pub pair_z : (p q : ℕ) → p ≡ 0 → q ≢ 0 → Z ≡ pair_digit p q
pair_z p zero h j = absurd (j refl)
pair_z p (suc q) h j = sym (ap (λ k. pair_digit k (suc q)) h)

pub pair_x : (p q : ℕ) → p ≢ 0 → q ≢ 0 → X ≡ pair_digit p q
pair_x zero q h j = absurd (h refl)
pair_x p zero h j = absurd (j refl)
pair_x (suc p) (suc q) h j = refl

module _ {v : Vector} {w a b : ℕ} (p : AreWords w a b) (view : of_words w a b ≡ v) where
  pub digit_at : (i : ℕ) → i < length v → pair_digit (bit_and (a / 2 ^ i) 1) (bit_and (b / 2 ^ i) 1) ≡ select_digit v i
  digit_at i h =
      let within : i < w = omega (arith, width_is p view) in
      (λ k. pair_digit (shr_and_one a i k) (shr_and_one b i k)) ∙ sym (index-of_words w a b i X within) ∙ ap (λ u. select_digit u i) view

  low_bit : (n i : ℕ) → bit_and (n / 2 ^ i) 1 % 2 ≡ bit_and (n / 2 ^ i) 1
  low_bit n i = omega (arith, shr_and_one n i, bit_at-lt n i)

  pub one_digit_at : (i : ℕ) → i < length v → of_words 1 (bit_and (a / 2 ^ i) 1) (bit_and (b / 2 ^ i) 1) ≡ select_digit v i ∷ []
  one_digit_at i h = (λ k. pair_digit (low_bit a i k) (low_bit b i k) ∷ []) ∙ ap (λ d. d ∷ []) (digit_at i h)

  -- ---- a new width

  pub extended_words : (n : ℕ) → n ≤ greatest_width → w ≤ n → AreWords n a b
  extended_words n within wider =
      record {
        some = omega (arith, p.some, wider);
        within = within;
        first = omega (arith, p.first, pow_mono wider);
        second = omega (arith, p.second, pow_mono wider);
      }

  pub extended : (n : ℕ) → of_words n a b ≡ resize n v
  extended n = sym (resize-of_words n w a b p.first p.second) ∙ ap (resize n) view

  pub resized : (n m : ℕ) → m ≡ 2 ^ n - 1 → of_words n (bit_and a m) (bit_and b m) ≡ resize n v
  resized n m mask = masked n m a b mask ∙ sym (resize-of_words n w a b p.first p.second) ∙ ap (resize n) view

  pub cut : (f n m : ℕ) → f + n ≤ length v → m ≡ 2 ^ n - 1 → of_words n (bit_and (a / 2 ^ f) m) (bit_and (b / 2 ^ f) m) ≡ take n (drop f v)
  cut f n m fit mask =
      masked n m _ _ mask ∙ sym (take-of_words n (w - f) (a / 2 ^ f) (b / 2 ^ f) (omega (arith, width_is p view)))
      ∙ sym (ap (take n) (drop-of_words f w a b (omega (arith, width_is p view)))) ∙ ap (λ u. take n (drop f u)) view

  -- ---- shifts

  left : (n k m : ℕ) → n < w → w ≤ k → m ≡ 2 ^ w - 1 → of_words w (bit_and (a * 2 ^ n % 2 ^ k) m) (bit_and (b * 2 ^ n % 2 ^ k) m) ≡ left_by v n
  left n k m h wide mask =
      let len : w ≡ length v = width_is p view in
      let low : n ≡ min n (length v) = omega arith in
      masked w m _ _ mask ∙ of_words-wrap w k (a * 2 ^ n) (b * 2 ^ n) wide ∙ sym (shifted-of_words n w w a b (omega arith))
      ∙ (λ i. take (len i) (replicate (low i) Zero ++ view i))

  left_all : (n : ℕ) → w ≤ n → of_words w 0 0 ≡ left_by v n
  left_all n h =
      let len : w ≡ length v = width_is p view in
      let all : w ≡ min n (length v) = omega arith in
      of_words-zeros w ∙ sym (take_at (replicate w Zero) v w (length-replicate w Zero)) ∙ (λ i. take (len i) (replicate (all i) Zero ++ v))

  right : (n : ℕ) → n < w → of_words w (a / 2 ^ n) (b / 2 ^ n) ≡ right_by v n
  right n h =
      let parts : w ≡ w - n + n = omega arith in
      let fa : a / 2 ^ n < 2 ^ (w - n) = shr_below a (w - n) n (subst (λ k. a < 2 ^ k) parts p.first) in
      let fb : b / 2 ^ n < 2 ^ (w - n) = shr_below b (w - n) n (subst (λ k. b < 2 ^ k) parts p.second) in
      sym (resize-of_words w (w - n) (a / 2 ^ n) (b / 2 ^ n) fa fb) ∙ sym (ap (resize w) (drop-of_words n w a b (omega arith)))
      ∙ (λ i. resize (width_is p view i) (drop n (view i)))

  right_all : (n : ℕ) → w ≤ n → of_words w 0 0 ≡ right_by v n
  right_all n h =
      let none : drop n v ≡ [] = drop_all n v (omega (arith, width_is p view)) in
      sym (resize-of_words w 0 0 0 (pow_pos 0) (pow_pos 0)) ∙ (λ i. resize (width_is p view i) (sym none i))

  module _ {u : Vector} {n c d : ℕ} (q : AreWords n c d) (other : of_words n c d ≡ u) where
    pub unknown_left : d ≢ 0 → unknown w ≡ shl_vector v u
    unknown_left h = ap unknown (width_is p view) ∙ sym (ap (λ t. cond t (left_by v (number u)) (unknown (length v))) (is_unknown_at q other h))

    pub unknown_right : d ≢ 0 → unknown w ≡ shr_vector v u
    unknown_right h = ap unknown (width_is p view) ∙ sym (ap (λ t. cond t (right_by v (number u)) (unknown (length v))) (is_unknown_at q other h))

    known_left : d ≡ 0 → left_by v c ≡ shl_vector v u
    known_left h =
        ap (left_by v) (sym (number_at q other h)) ∙ sym (ap (λ t. cond t (left_by v (number u)) (unknown (length v))) (is_known_at q other h))

    known_right : d ≡ 0 → right_by v c ≡ shr_vector v u
    known_right h =
        ap (right_by v) (sym (number_at q other h)) ∙ sym (ap (λ t. cond t (right_by v (number u)) (unknown (length v))) (is_known_at q other h))

    pub shifted_left : d ≡ 0 → c < w → (k m : ℕ) → w ≤ k → m ≡ 2 ^ w - 1
        → of_words w (bit_and (a * 2 ^ c % 2 ^ k) m) (bit_and (b * 2 ^ c % 2 ^ k) m) ≡ shl_vector v u
    shifted_left h less k m wide mask = left c k m less wide mask ∙ known_left h

    pub shifted_left_all : d ≡ 0 → w ≤ c → of_words w 0 0 ≡ shl_vector v u
    shifted_left_all h more = left_all c more ∙ known_left h

    pub shifted_right : d ≡ 0 → c < w → of_words w (a / 2 ^ c) (b / 2 ^ c) ≡ shr_vector v u
    shifted_right h less = right c less ∙ known_right h

    pub shifted_right_all : d ≡ 0 → w ≤ c → of_words w 0 0 ≡ shr_vector v u
    shifted_right_all h more = right_all c more ∙ known_right h

    -- ---- concatenation, with u below v

    pub joined_words : (k : ℕ) → length v + length u ≤ greatest_width → greatest_width ≤ k
        → AreWords (n + w) (bit_or (a * 2 ^ n % 2 ^ k) c) (bit_or (b * 2 ^ n % 2 ^ k) d)
    joined_words k fit wide =
        let room : w + n ≤ greatest_width = omega (arith, width_is p view, width_is q other) in
        let turned : w + n ≡ n + w = omega arith in
        let more : n ≤ n + w = omega arith in
        let bound : (x : ℕ) → x < 2 ^ w → x * 2 ^ n % 2 ^ k < 2 ^ (n + w) =
        λ x h. subst (λ t. t < 2 ^ (n + w)) (sym (shl_whole x w n k h (omega arith))) (subst (λ t. x * 2 ^ n < 2 ^ t) turned (shl_below x w n h)) in
        record {
          some = omega (arith, p.some);
          within = omega arith;
          first = or_lt (n + w) _ _ (bound a p.first) (omega (arith, q.first, pow_mono more));
          second = or_lt (n + w) _ _ (bound b p.second) (omega (arith, q.second, pow_mono more));
        }

    pub joined : (k : ℕ) → length v + length u ≤ k
        → of_words (n + w) (bit_or (a * 2 ^ n % 2 ^ k) c) (bit_or (b * 2 ^ n % 2 ^ k) d) ≡ concat_vector v u
    joined k fit =
        let room : w + n ≤ k = omega (arith, width_is p view, width_is q other) in
        let sum : (x y : ℕ) → x < 2 ^ w → y < 2 ^ n → bit_or (x * 2 ^ n % 2 ^ k) y ≡ x * 2 ^ n + y =
        λ x y hx hy. ap (λ t. bit_or t y) (shl_whole x w n k hx room) ∙ or_shifted x n y hy in
        (λ i. of_words (n + w) (sum a c p.first q.first i) (sum b d p.second q.second i))
        ∙ sym (append-of_words n w c d a b q.first q.second) ∙ (λ i. other i ++ view i)

    -- ---- equality

    same_fields : v ≡ u → (w ≡ n) × (a ≡ c) × (b ≡ d)
    same_fields e = (
      width_is p view ∙ ap length e ∙ sym (width_is q other),
      sym (first_word-of_words w a b p.first) ∙ ap first_word (view ∙ e ∙ sym other) ∙ first_word-of_words n c d q.first,
      sym (second_word-of_words w a b p.second) ∙ ap second_word (view ∙ e ∙ sym other) ∙ second_word-of_words n c d q.second,
    )

    pub same_words : ((eqb w n && eqb a c) && eqb b d) ≡ same_vector v u
    same_words =
        same_from_decides _ _ (
          (λ h.
              let front = (and_parts (eqb w n && eqb a c) (eqb b d) h).0 in
              let width : w ≡ n = eqb-true _ _ (and_parts _ _ front).0 in
              let first : a ≡ c = eqb-true _ _ (and_parts _ _ front).1 in
              let second : b ≡ d = eqb-true _ _ (and_parts (eqb w n && eqb a c) (eqb b d) h).1 in
              sym view ∙ (λ i. of_words (width i) (first i) (second i)) ∙ other),
          (λ e.
              let h = same_fields e in
              and_from _ _ (and_from _ _ (eq-eqb w n h.0) (eq-eqb a c h.1)) (eq-eqb b d h.2)),
        )
        (same_vector-Decides v u)

-- ---- the words of a vector

pub first_is : {v : Vector} {w a b : ℕ} → AreWords w a b → of_words w a b ≡ v → a ≡ first_word v
first_is {w = w} {a = a} {b = b} p view = sym (first_word-of_words w a b p.first) ∙ ap first_word view

pub second_is : {v : Vector} {w a b : ℕ} → AreWords w a b → of_words w a b ≡ v → b ≡ second_word v
second_is {w = w} {a = a} {b = b} p view = sym (second_word-of_words w a b p.second) ∙ ap second_word view

pub words_of : {v : Vector} {w a b : ℕ} → AreWords w a b → of_words w a b ≡ v → AreWords (length v) (first_word v) (second_word v)
words_of {v = v} {w = w} p view =
    subst (λ k. AreWords k (first_word v) (second_word v)) (width_is p view)
    (record {
      some = p.some;
      within = p.within;
      first = subst (λ x. x < 2 ^ w) (first_is p view) p.first;
      second = subst (λ x. x < 2 ^ w) (second_is p view) p.second;
    })

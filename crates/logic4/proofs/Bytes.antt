-- The bytes of vectors of words, and texts of bytes.
use Rattle.std.proofs.Common.{◌≡◌, ℕ, zero, suc, ◌+◌, ◌-◌, ◌/◌, ◌%◌, ◌^◌, ◌<◌, ◌≤◌, min, max, bit_or, bit_xor, Bool, true, false, not, ◌||◌, cond, List, [], ◌∷◌, ◌++◌, length, take, drop, refl, sym, ◌∙◌, ap, arith, append_assoc, append-nil}
use lib.Pow.{pow_mono}
use Rattle.std.proofs.Math.Nat.{pow-suc}
use Rattle.std.proofs.lemmas.Nat.{or_lt, xor_lt}
use Rattle.std.proofs.lemmas.Nat.Bits.{bit_at-lt, bit_at_lowest, bit_at-suc, bit_at_or, bit_at_xor}
use Rattle.std.proofs.lemmas.List.{drop_all}
use Rattle.std.specs.Prelude.{nat_eq}
use Rattle.std.specs.Int.{bit_at}
use Rattle.std.specs.List.{list_any}
use Rattle.logic4.specs.declared.conversion.LeadingZeros.{LeadingZeros}
use Rattle.logic4.specs.Vector.{Vector, digit_number, number}
use Rattle.logic4.specs.Display.{bytes_of, character_text, characters_text, filled_text}
use Rattle.logic4.specs.Leading.{blank_of, byte_text}
use Rattle.logic4.specs.VectorWords.{AreWords, pair_digit, of_words}
use Rattle.logic4.proofs.Pairs.{width_is}
use Rattle.logic4.proofs.Texts.{group_step}

-- ---- the number of digits of which some aren't known

number_marked : (w a b x : ℕ) → x < 2 ^ w → ((i : ℕ) → i < w → digit_number (pair_digit (bit_at a i) (bit_at b i)) ≡ bit_at x i)
    → number (of_words w a b) ≡ x
number_marked zero a b x fits h = omega arith
number_marked (suc w) a b x fits h =
    let low : digit_number (pair_digit (a % 2) (b % 2)) ≡ x % 2 =
    sym (λ k. digit_number (pair_digit (bit_at_lowest a k) (bit_at_lowest b k))) ∙ h 0 (omega arith) ∙ bit_at_lowest x in
    let high : number (of_words w (a / 2) (b / 2)) ≡ x / 2 =
    number_marked w (a / 2) (b / 2) (x / 2) (omega (arith, pow-suc 2 w))
    (λ i l. sym (λ k. digit_number (pair_digit (bit_at-suc a i k) (bit_at-suc b i k))) ∙ h (suc i) (omega arith) ∙ bit_at-suc x i) in
    omega (arith, low, high)

one_bit : (p q : ℕ) → p < 2 → q < 2 → digit_number (pair_digit p q) ≡ (max p q + q) % 2
one_bit zero zero hp hq = refl
one_bit zero (suc zero) hp hq = refl
one_bit (suc zero) zero hp hq = refl
one_bit (suc zero) (suc zero) hp hq = refl
one_bit (suc (suc p)) q hp hq = absurd (omega arith)
one_bit p (suc (suc q)) hp hq = absurd (omega arith)

one_bit_at : (a b i : ℕ) → digit_number (pair_digit (bit_at a i) (bit_at b i)) ≡ bit_at (bit_xor (bit_or a b) b) i
one_bit_at a b i =
    one_bit (bit_at a i) (bit_at b i) (bit_at-lt a i) (bit_at-lt b i)
    ∙ sym (bit_at_xor (bit_or a b) b i ∙ ap (λ k. (k + bit_at b i) % 2) (bit_at_or a b i))

module _ {v : Vector} {w a b : ℕ} (p : AreWords w a b) (view : of_words w a b ≡ v) where
  ones_fit : bit_xor (bit_or a b) b < 2 ^ w
  ones_fit = xor_lt w (bit_or a b) b (or_lt w a b p.first p.second) p.second

  pub ones_number : bit_xor (bit_or a b) b ≡ number v
  ones_number = sym (number_marked w a b (bit_xor (bit_or a b) b) ones_fit (λ i l. one_bit_at a b i)) ∙ ap number view

  pub byte_fits : length v ≤ 8 → bit_xor (bit_or a b) b < 256
  byte_fits h =
      let short : w ≤ 8 = omega (arith, width_is p view) in
      omega (arith, ones_fit, pow_mono short)

-- ---- one byte more

byte_front : (v : Vector) → 0 < length v → bytes_of (drop 8 v) ++ number (take 8 v) ∷ [] ≡ bytes_of v
byte_front [] h = absurd (omega arith)
byte_front (a ∷ []) h = refl
byte_front (a ∷ b ∷ []) h = refl
byte_front (a ∷ b ∷ c ∷ []) h = refl
byte_front (a ∷ b ∷ c ∷ d ∷ []) h = refl
byte_front (a ∷ b ∷ c ∷ d ∷ e ∷ []) h = refl
byte_front (a ∷ b ∷ c ∷ d ∷ e ∷ f ∷ []) h = refl
byte_front (a ∷ b ∷ c ∷ d ∷ e ∷ f ∷ g ∷ []) h = refl
byte_front (a ∷ b ∷ c ∷ d ∷ e ∷ f ∷ g ∷ i ∷ v) h = refl

byte_step : (v : Vector) (at next : ℕ) → next ≡ at + 8 → at < length v
    → bytes_of (drop next v) ++ number (take (min (length v - at) 8) (drop at v)) ∷ [] ≡ bytes_of (drop at v)
byte_step v at next e h = group_step bytes_of (λ u. number u ∷ []) 8 byte_front v at next e h

-- whether a byte isn't zero
abbrev pub is_some : ℕ → Bool
is_some b = not (nat_eq b 0)

any_more : (s t u x : Bool) → t ≡ (u || x) → (s || t) ≡ ((s || u) || x)
any_more true t u x h = refl
any_more false t u x h = h

or_false : (x : Bool) → (x || false) ≡ x
or_false true = refl
or_false false = refl

any_step : (bs : List ℕ) (b : ℕ) → list_any is_some (bs ++ b ∷ []) ≡ (list_any is_some bs || is_some b)
any_step [] b = or_false (is_some b)
any_step (c ∷ cs) b = any_more (is_some c) _ (list_any is_some cs) (is_some b) (any_step cs b)

characters_step : (bs : List ℕ) (b : ℕ) → characters_text (bs ++ b ∷ []) ≡ characters_text bs ++ character_text b
characters_step [] b = append-nil (character_text b)
characters_step (c ∷ cs) b =
    ap (λ t. character_text c ++ t) (characters_step cs b) ∙ sym (append_assoc (character_text c) (characters_text cs) (character_text b))

module _ (zeros : LeadingZeros) (b : ℕ) where
  first_byte : (e : Bool) → cond e (blank_of zeros ++ []) (character_text b ++ []) ≡ byte_text zeros (not e) b
  first_byte true = append-nil (blank_of zeros)
  first_byte false = append-nil (character_text b)

  more_bytes : (e : Bool) (c : ℕ) (cs : List ℕ) (some : Bool)
      → filled_text (blank_of zeros) (cs ++ b ∷ []) ≡ filled_text (blank_of zeros) cs ++ byte_text zeros some b
      → (s : Bool) → s ≡ ((not e || list_any is_some cs) || is_some b) → some ≡ (list_any is_some cs || is_some b)
      → cond e (blank_of zeros ++ filled_text (blank_of zeros) (cs ++ b ∷ [])) (character_text c ++ characters_text (cs ++ b ∷ []))
      ≡ cond e (blank_of zeros ++ filled_text (blank_of zeros) cs) (character_text c ++ characters_text cs) ++ byte_text zeros s b
  more_bytes true c cs some h s now before =
      ap (λ t. blank_of zeros ++ t) h ∙ sym (append_assoc (blank_of zeros) (filled_text (blank_of zeros) cs) (byte_text zeros some b))
      ∙ ap (λ t. (blank_of zeros ++ filled_text (blank_of zeros) cs) ++ byte_text zeros t b) (before ∙ sym now)
  more_bytes false c cs some h s now before =
      ap (λ t. character_text c ++ t) (characters_step cs b) ∙ sym (append_assoc (character_text c) (characters_text cs) (character_text b))
      ∙ ap (λ t. (character_text c ++ characters_text cs) ++ byte_text zeros t b) (sym now)

  -- a byte behind the text of others
  pub filled_step : (bs : List ℕ)
      → filled_text (blank_of zeros) (bs ++ b ∷ []) ≡ filled_text (blank_of zeros) bs ++ byte_text zeros (list_any is_some bs || is_some b) b
  filled_step [] = first_byte (nat_eq b 0)
  filled_step (c ∷ cs) = more_bytes (nat_eq c 0) c cs _ (filled_step cs) _ refl refl

-- the text of the bytes before one, that one behind it, and whether they have one that isn't zero
pub byte_push : (zeros : LeadingZeros) (v u : Vector) (at next n byte : ℕ) (begun now : Bool) (old new : List ℕ) → next ≡ at + 8 → at < length v
    → u ≡ take n (drop at v) → n ≡ min (length v - at) 8 → byte ≡ number u
    → begun ≡ list_any is_some (bytes_of (drop next v)) → now ≡ (begun || is_some byte)
    → old ≡ filled_text (blank_of zeros) (bytes_of (drop next v)) → new ≡ old ++ byte_text zeros now byte
    → (now ≡ list_any is_some (bytes_of (drop at v))) × (new ≡ filled_text (blank_of zeros) (bytes_of (drop at v)))
byte_push zeros v u at next n byte begun now old new e within part width value some grown before text =
    let bs : List ℕ = bytes_of (drop next v) in
    let is : byte ≡ number (take (min (length v - at) 8) (drop at v)) =
    value ∙ ap number part ∙ ap (λ k. number (take k (drop at v))) width in
    let whole : bs ++ byte ∷ [] ≡ bytes_of (drop at v) = ap (λ k. bs ++ k ∷ []) is ∙ byte_step v at next e within in
    let state : now ≡ (list_any is_some bs || is_some byte) = grown ∙ ap (λ t. t || is_some byte) some in (
      state ∙ sym (any_step bs byte) ∙ ap (list_any is_some) whole,
      text ∙ (λ k. before k ++ byte_text zeros (state k) byte) ∙ sym (filled_step zeros byte bs) ∙ ap (filled_text (blank_of zeros)) whole,
    )

-- the text before the first byte
pub no_bytes : (zeros : LeadingZeros) (v : Vector) (n : ℕ) (old : List ℕ) → old ≡ [] → length v ≤ n
    → (false ≡ list_any is_some (bytes_of (drop n v))) × (old ≡ filled_text (blank_of zeros) (bytes_of (drop n v)))
no_bytes zeros v n old empty past =
    let none = drop_all n v past in
    (sym (ap (λ u. list_any is_some (bytes_of u)) none), empty ∙ sym (ap (λ u. filled_text (blank_of zeros) (bytes_of u)) none))

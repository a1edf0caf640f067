-- The texts of vectors of words.
use Rattle.std.proofs.Common.{◌≡◌, ◌≢◌, ℕ, zero, suc, ◌+◌, ◌-◌, ◌^◌, ◌<◌, ◌≤◌, min, bit_and, Bool, true, false, ◌&&◌, cond, List, [], ◌∷◌, ◌++◌, length, take, drop, replicate, refl, sym, ◌∙◌, ap, arith}
use lib.Pow.{pow_mono}
use Rattle.std.proofs.lemmas.Nat.{and_le_l}
use Rattle.std.proofs.lemmas.Nat.Bits.{bit_at-lt, bit_at_and, bit_at-zero}
use Rattle.std.proofs.lemmas.List.{drop_more, drop-drop, drop_all, take_min, length-drop, replicate-append-replicate}
use Rattle.std.proofs.lemmas.Bool.{cond_below, cond_above}
use Rattle.std.specs.Prelude.{decimal, nat_eq}
use Rattle.std.specs.Int.{bit_at}
use Rattle.std.specs.List.{list_all, list_any}
use Rattle.logic4.specs.declared.digit.Digit.TheVariants.{X}
use Rattle.logic4.specs.Vector.{Vector, is_known, number}
use Rattle.logic4.specs.Operators.{select_digit}
use Rattle.logic4.specs.declared.conversion.LeadingZeros.{LeadingZeros}
use Rattle.logic4.specs.declared.conversion.LeadingZeros.TheVariants.{Shown, Dropped}
use Rattle.logic4.specs.Display.{is_x, is_z, digit_text, binary_text, unknown_text, octal_text, hex_digit_text, hex_group_text, hex_text, decimal_text, without_zeros}
use Rattle.logic4.specs.Leading.{led, behind_zero, put_behind}
use Rattle.logic4.specs.VectorWords.{AreWords, pair_digit, of_words}
use Rattle.logic4.proofs.Pairs.{width_is, is_known_at, is_unknown_at, number_at}
use Rattle.logic4.proofs.Marks.{Marks, all_marked, not_all_marked, none_marked, one_marked}

-- ---- x and z

is_x_set : (p q : ℕ) → min p q ≡ 1 → is_x (pair_digit p q) ≡ true
is_x_set zero q h = absurd (omega arith)
is_x_set (suc p) zero h = absurd (omega arith)
is_x_set (suc p) (suc q) h = refl

is_x_clear : (p q : ℕ) → min p q ≡ 0 → is_x (pair_digit p q) ≡ false
is_x_clear zero zero h = refl
is_x_clear zero (suc q) h = refl
is_x_clear (suc p) zero h = refl
is_x_clear (suc p) (suc q) h = absurd (omega arith)

is_z_set : (p q : ℕ) → p ≡ 0 → q ≡ 1 → is_z (pair_digit p q) ≡ true
is_z_set zero zero h j = absurd (omega arith)
is_z_set zero (suc q) h j = refl
is_z_set (suc p) q h j = absurd (omega arith)

is_z_clear : (p q : ℕ) → q ≡ 0 → is_z (pair_digit p q) ≡ false
is_z_clear zero zero h = refl
is_z_clear (suc p) zero h = refl
is_z_clear p (suc q) h = absurd (omega arith)

marks_x : (w a b : ℕ) → Marks is_x w a b (bit_and a b)
marks_x w a b = record {
  set = λ i l e. is_x_set (bit_at a i) (bit_at b i) (sym (bit_at_and a b i) ∙ e);
  clear = λ i l e. is_x_clear (bit_at a i) (bit_at b i) (sym (bit_at_and a b i) ∙ e);
}

apart : (a b i : ℕ) → bit_and a b ≡ 0 → bit_at b i ≡ 1 → bit_at a i ≡ 0
apart a b i none one =
    let both : min (bit_at a i) (bit_at b i) ≡ 0 = sym (bit_at_and a b i) ∙ ap (λ k. bit_at k i) none ∙ bit_at-zero i in
    omega (arith, bit_at-lt a i)

marks_z : (w a b : ℕ) → bit_and a b ≡ 0 → Marks is_z w a b b
marks_z w a b none = record {
  set = λ i l e. is_z_set (bit_at a i) (bit_at b i) (apart a b i none e) e;
  clear = λ i l e. is_z_clear (bit_at a i) (bit_at b i) e;
}

text_of_all_x : (v : Vector) → list_all is_x v ≡ true → 120 ∷ [] ≡ unknown_text v
text_of_all_x v e = rw e refl

text_of_some_x : (v : Vector) → list_all is_x v ≡ false → list_any is_x v ≡ true → 88 ∷ [] ≡ unknown_text v
text_of_some_x v e j = rw (e, j) refl

text_of_all_z : (v : Vector) → list_all is_x v ≡ false → list_any is_x v ≡ false → list_all is_z v ≡ true → 122 ∷ [] ≡ unknown_text v
text_of_all_z v e j k = rw (e, j, k) refl

text_of_some_z : (v : Vector) → list_all is_x v ≡ false → list_any is_x v ≡ false → list_all is_z v ≡ false → 90 ∷ [] ≡ unknown_text v
text_of_some_z v e j k = rw (e, j, k) refl

module _ {v : Vector} {w a b : ℕ} (p : AreWords w a b) (view : of_words w a b ≡ v) where
  x_fits : bit_and a b < 2 ^ w
  x_fits = omega (arith, and_le_l a b, p.first)

  not_all_x : bit_and a b ≢ 2 ^ w - 1 → list_all is_x v ≡ false
  not_all_x h = sym (ap (list_all is_x) view) ∙ not_all_marked is_x w a b (bit_and a b) (marks_x w a b) x_fits h

  no_x : bit_and a b ≡ 0 → list_any is_x v ≡ false
  no_x h = sym (ap (list_any is_x) view) ∙ none_marked is_x w a b (bit_and a b) (marks_x w a b) h

  module _ (m : ℕ) (mask : m ≡ 2 ^ w - 1) where
    pub letter_x : bit_and a b ≡ m → 120 ∷ [] ≡ unknown_text v
    letter_x h = text_of_all_x v (sym (ap (list_all is_x) view) ∙ all_marked is_x w a b (bit_and a b) (marks_x w a b) (h ∙ mask))

    pub letter_some_x : bit_and a b ≢ m → bit_and a b ≢ 0 → 88 ∷ [] ≡ unknown_text v
    letter_some_x h some =
        text_of_some_x v (not_all_x (λ e. h (e ∙ sym mask)))
        (sym (ap (list_any is_x) view) ∙ one_marked is_x w a b (bit_and a b) (marks_x w a b) x_fits some)

    pub letter_z : bit_and a b ≢ m → bit_and a b ≡ 0 → b ≡ m → 122 ∷ [] ≡ unknown_text v
    letter_z h none all =
        text_of_all_z v (not_all_x (λ e. h (e ∙ sym mask))) (no_x none)
        (sym (ap (list_all is_z) view) ∙ all_marked is_z w a b b (marks_z w a b none) (all ∙ mask))

    pub letter_some_z : bit_and a b ≢ m → bit_and a b ≡ 0 → b ≢ m → 90 ∷ [] ≡ unknown_text v
    letter_some_z h none other =
        text_of_some_z v (not_all_x (λ e. h (e ∙ sym mask))) (no_x none)
        (sym (ap (list_all is_z) view) ∙ not_all_marked is_z w a b b (marks_z w a b none) p.second (λ e. other (e ∙ sym mask)))

  -- ---- hex digits and decimals

  pub nibble : length v ≤ 4 → a < 16
  nibble h =
      let short : w ≤ 4 = omega (arith, width_is p view) in
      omega (arith, p.first, pow_mono short)

  pub hex_unknown : b ≢ 0 → unknown_text v ≡ hex_group_text v
  hex_unknown h = let e = is_unknown_at p view h in rw e refl

  hex_known : b ≡ 0 → hex_digit_text a ≡ hex_group_text v
  hex_known h = let e : is_known v ≡ true = is_known_at p view h in let n : number v ≡ a = number_at p view h in rw (e, n) refl

  pub hex_low : b ≡ 0 → a < 10 → (48 + a) ∷ [] ≡ hex_group_text v
  hex_low h l = ap (λ k. k ∷ []) (cond_below a 10 (48 + a) (87 + a) l) ∙ hex_known h

  pub hex_high : b ≡ 0 → 10 ≤ a → (87 + a) ∷ [] ≡ hex_group_text v
  hex_high h l = ap (λ k. k ∷ []) (cond_above a 10 (48 + a) (87 + a) (87 + a) l refl) ∙ hex_known h

  pub decimal_known : b ≡ 0 → decimal a ≡ decimal_text v
  decimal_known h = let e : is_known v ≡ true = is_known_at p view h in let n : number v ≡ a = number_at p view h in rw (e, n) refl

  pub decimal_unknown : b ≢ 0 → unknown_text v ≡ decimal_text v
  decimal_unknown h = let e : is_known v ≡ false = is_unknown_at p view h in rw e refl

-- ---- one digit or group more

short_one : (e : Bool) (x y : List ℕ) → cond (e && true) x y ≡ cond e x y
short_one true x y = refl
short_one false x y = refl

short_two : (e : Bool) (c d b : ℕ) (ds w w' : List ℕ) → e ≡ nat_eq c 48 → behind_zero w b ≡ w'
    → behind_zero (cond e w (c ∷ d ∷ ds)) b ≡ cond e w' (c ∷ d ∷ (ds ++ b ∷ []))
short_two true c d b ds w w' e h = h
short_two false c d b ds w w' e h = ap (λ t. cond (t && false) (b ∷ []) (c ∷ d ∷ (ds ++ b ∷ []))) (sym e)

short_more : (c : ℕ) (cs : List ℕ) (b : ℕ) → behind_zero (without_zeros cs) b ≡ without_zeros (cs ++ b ∷ [])
    → behind_zero (without_zeros (c ∷ cs)) b ≡ without_zeros (c ∷ (cs ++ b ∷ []))
short_more c [] b h = short_one (nat_eq c 48) (b ∷ []) (c ∷ b ∷ [])
short_more c (d ∷ ds) b h = short_two (nat_eq c 48) c d b ds (without_zeros (d ∷ ds)) (without_zeros (d ∷ (ds ++ b ∷ []))) refl h

-- a letter behind a text without its zeros at the front
short_step : (text : List ℕ) (letter : ℕ) → behind_zero (without_zeros text) letter ≡ without_zeros (text ++ letter ∷ [])
short_step [] letter = refl
short_step (c ∷ cs) letter = short_more c cs letter (short_step cs letter)

pub led_step : (zeros : LeadingZeros) (text : List ℕ) (letter : ℕ) → put_behind zeros (led zeros text) letter ≡ led zeros (text ++ letter ∷ [])
led_step Shown text letter = refl
led_step Dropped text letter = short_step text letter

pub binary_step : (v : Vector) (i : ℕ) → i < length v → binary_text (drop (i + 1) v) ++ digit_text (select_digit v i) ≡ binary_text (drop i v)
binary_step v i h = sym (ap binary_text (drop_more v i X h))

pub hex_front : (v : Vector) → 0 < length v → hex_text (drop 4 v) ++ hex_group_text (take 4 v) ≡ hex_text v
hex_front [] h = absurd (omega arith)
hex_front (a ∷ []) h = refl
hex_front (a ∷ b ∷ []) h = refl
hex_front (a ∷ b ∷ c ∷ []) h = refl
hex_front (a ∷ b ∷ c ∷ d ∷ v) h = refl

pub octal_front : (v : Vector) → 0 < length v → octal_text (drop 3 v) ++ hex_group_text (take 3 v) ≡ octal_text v
octal_front [] h = absurd (omega arith)
octal_front (a ∷ []) h = refl
octal_front (a ∷ b ∷ []) h = refl
octal_front (a ∷ b ∷ c ∷ v) h = refl

-- a text that is made of groups of s digits
module _ (text group : Vector → List ℕ) (s : ℕ) (front : (v : Vector) → 0 < length v → text (drop s v) ++ group (take s v) ≡ text v) where
  pub group_step : (v : Vector) (at next : ℕ) → next ≡ at + s → at < length v
      → text (drop next v) ++ group (take (min (length v - at) s) (drop at v)) ≡ text (drop at v)
  group_step v at next e h =
      let rest : Vector = drop at v in
      let len : length v - at ≡ length rest = sym (length-drop at v) in
      let turned : min (length v - at) s ≡ min s (length rest) = omega (arith, len) in
      (λ i. text (drop (e i) v) ++ group (take (turned i) rest))
      ∙ sym (λ i. text (drop-drop s at v i) ++ group (take (min s (length rest)) rest))
      ∙ ap (λ t. text (drop s rest) ++ group t) (take_min s rest)
      ∙ front rest (omega (arith, len))

  -- the text before a group of the vector u, and the group's letter
  pub group_push : (zeros : LeadingZeros) (v u : Vector) (at next n letter : ℕ) (old : List ℕ) → next ≡ at + s → at < length v
      → u ≡ take n (drop at v) → n ≡ min (length v - at) s → old ≡ led zeros (text (drop next v)) → letter ∷ [] ≡ group u
      → put_behind zeros old letter ≡ led zeros (text (drop at v))
  group_push zeros v u at next n letter old e within part width before mark =
      let whole : text (drop next v) ++ letter ∷ [] ≡ text (drop at v) =
      ap (λ t. text (drop next v) ++ t) mark ∙ ap (λ t. text (drop next v) ++ group t) part
      ∙ ap (λ k. text (drop next v) ++ group (take k (drop at v))) width ∙ group_step v at next e within in
      ap (λ t. put_behind zeros t letter) before ∙ led_step zeros (text (drop next v)) letter ∙ ap (led zeros) whole

-- the text before a digit, and its letter
pub binary_push : (zeros : LeadingZeros) (v : Vector) (i next letter : ℕ) (old : List ℕ) → next ≡ i + 1 → i < length v
    → old ≡ led zeros (binary_text (drop next v)) → letter ∷ [] ≡ digit_text (select_digit v i)
    → put_behind zeros old letter ≡ led zeros (binary_text (drop i v))
binary_push zeros v i next letter old e within before mark =
    let whole : binary_text (drop next v) ++ letter ∷ [] ≡ binary_text (drop i v) =
    ap (λ t. binary_text (drop next v) ++ t) mark ∙ ap (λ k. binary_text (drop k v) ++ digit_text (select_digit v i)) e ∙ binary_step v i within in
    ap (λ t. put_behind zeros t letter) before ∙ led_step zeros (binary_text (drop next v)) letter ∙ ap (led zeros) whole

led_nothing : (zeros : LeadingZeros) → [] ≡ led zeros []
led_nothing Shown = refl
led_nothing Dropped = refl

-- the text before the first letter
pub led_start : (text : Vector → List ℕ) (zeros : LeadingZeros) (v : Vector) (n : ℕ) (old : List ℕ) → text [] ≡ [] → old ≡ [] → length v ≤ n
    → old ≡ led zeros (text (drop n v))
led_start text zeros v n old none empty past =
    empty ∙ led_nothing zeros ∙ sym (ap (led zeros) (ap text (drop_all n v past) ∙ none))

-- one blank more
pub blank_more : (n : ℕ) (old new : List ℕ) → old ≡ replicate n 32 → new ≡ old ++ 32 ∷ [] → new ≡ replicate (n + 1) 32
blank_more n old new before one = one ∙ ap (λ t. t ++ 32 ∷ []) before ∙ replicate-append-replicate n 1 32

-- what a push of an ASCII letter leaves
pub pushed : (new old bytes : List ℕ) (char letter : ℕ) → new ≡ old ++ bytes → (char < 128 → bytes ≡ char ∷ []) → char ≡ letter → letter < 128
    → new ≡ old ++ letter ∷ []
pushed new old bytes char letter whole ascii same small = whole ∙ ap (λ t. old ++ t) (ascii (omega arith) ∙ ap (λ k. k ∷ []) same)

-- Each byte of a token is ASCII.
use Rattle.std.proofs.Common.{◌≡◌, ℕ, ◌<◌, List, [], ◌∷◌, ◌++◌, Bool, true, false, ◌||◌, ◌==◌, take, inl, inr, arith}
use Rattle.std.specs.Str.{IsAscii}
use Rattle.std.proofs.lemmas.Bool.Decides.{nat_tests}
use Rattle.std.proofs.lemmas.Str.Ascii.{IsAscii-nil, IsAscii-cons}
use Rattle.tokens.specs.ByteClasses.{is_letter, is_digit, in_word, in_literal, in_string, is_escape, all}
use Rattle.tokens.specs.Lexing.{is_sign1, is_sign2, is_sign3, is_string_rest, is_skipped, IsPiece, space, line, block, word, system, decimal, sized, quoted, sign1, sign2, sign3}
use Rattle.tokens.specs.Lengths.{piece_len}
use Rattle.tokens.proofs.Steps.{if-is, and-true, same_byte}
use Rattle.tokens.proofs.Longest.{no_more, is}

letter : (b : ℕ) → is_letter b ≡ true → b < 128
letter b h = grind (arith, nat_tests)

digit : (b : ℕ) → is_digit b ≡ true → b < 128
digit b h = grind (arith, nat_tests)

in_name : (b : ℕ) → in_word b ≡ true → b < 128
in_name b h = grind (arith, nat_tests)

in_number : (b : ℕ) → in_literal b ≡ true → b < 128
in_number b h = grind (arith, nat_tests)

in_text : (b : ℕ) → (in_string b || b == 92) ≡ true → b < 128
in_text b h = grind (arith, nat_tests)

escape : (b : ℕ) → is_escape b ≡ true → b < 128
escape b h = grind (arith, nat_tests)

first_sign : (b : ℕ) → is_sign1 b ≡ true → b < 128
first_sign b h = grind (arith, nat_tests)

two_signs : (a b : ℕ) → is_sign2 a b ≡ true → (a < 128) × (b < 128)
two_signs a b h = (grind (arith, nat_tests), grind (arith, nat_tests))

three_signs : (a b c : ℕ) → is_sign3 a b c ≡ true → (a < 128) × (b < 128) × (c < 128)
three_signs a b c h = (grind (arith, nat_tests), grind (arith, nat_tests), grind (arith, nat_tests))

whole : (p : ℕ → Bool) → ((b : ℕ) → p b ≡ true → b < 128) → (bs : List ℕ) → all p bs ≡ true → IsAscii bs
whole p below [] h = IsAscii-nil
whole p below (b ∷ bs) h = let w = and-true (p b) (all p bs) h in IsAscii-cons b bs (below b w.0) (whole p below bs w.1)

joined : (bs cs : List ℕ) → IsAscii cs → all is_digit bs ≡ true → IsAscii (bs ++ cs)
joined [] cs a h = a
joined (b ∷ bs) cs a h = let w = and-true (is_digit b) (all is_digit bs) h in IsAscii-cons b (bs ++ cs) (digit b w.0) (joined bs cs a w.1)

string : (after : Bool) (bs : List ℕ) → is_string_rest after bs ≡ true → IsAscii bs
string after [] h = absurd (cc)
string true (b ∷ bs) h = let w = and-true (is_escape b) _ h in IsAscii-cons b bs (escape b w.0) (string false bs w.1)
string false (b ∷ bs) h = elim (if-is (b == 34) _ _ true h) [
  | inl p ↦ (let e = no_more bs p.1 in let q = same_byte b 34 p.0 in rw e (IsAscii-cons b [] (omega arith) IsAscii-nil))
  | inr p ↦ (let w = and-true (in_string b || b == 92) _ p.1 in IsAscii-cons b bs (in_text b w.0) (string (b == 92) bs w.1))
]

one : (b : ℕ) → b < 128 → IsAscii (b ∷ [])
one b h = IsAscii-cons b [] h IsAscii-nil

pub token_is : {piece : List ℕ} → IsPiece piece → is_skipped piece ≡ false → IsAscii piece
token_is (space {b = b} h) shown = absurd (let w : is_skipped (b ∷ []) ≡ true = rw h in cc)
token_is (line h) shown = absurd (cc)
token_is (block h) shown = absurd (cc)
token_is (word {b = b} {bs = bs} h w) shown = IsAscii-cons b bs (letter b h) (whole in_word in_name bs w)
token_is (system {b = b} {bs = bs} h w) shown = IsAscii-cons 36 (b ∷ bs) (omega arith) (IsAscii-cons b bs (letter b h) (whole in_word in_name bs w))
token_is (decimal {b = b} {bs = bs} h w) shown = IsAscii-cons b bs (digit b h) (whole is_digit digit bs w)
token_is (sized {b = b} bs cs h w v) shown =
    IsAscii-cons b (bs ++ 39 ∷ cs) (digit b h) (joined bs (39 ∷ cs) (IsAscii-cons 39 cs (omega arith) (whole in_literal in_number cs v)) w)
token_is (quoted {bs = bs} h) shown = IsAscii-cons 34 bs (omega arith) (string false bs h)
token_is (sign1 {a = a} h) shown = one a (first_sign a h)
token_is (sign2 {a = a} {b = b} h) shown = let w = two_signs a b h in IsAscii-cons a (b ∷ []) w.0 (one b w.1)
token_is (sign3 {a = a} {b = b} {c = c} h) shown = let w = three_signs a b c h in IsAscii-cons a (b ∷ c ∷ []) w.0 (IsAscii-cons b (c ∷ []) w.1 (one c w.2))

pub taken : (left piece : List ℕ) (n : ℕ) → piece_len left ≡ n → 0 < n → piece ≡ take n left → is_skipped piece ≡ false → IsAscii piece
taken left piece n e w p shown = token_is (rw p (is left n e w)) shown

-- What the functions of the tokenizer compute. The public contracts don't speak of it.
use Rattle.std.specs.Prelude.{◌≡◌, ℕ, suc, ◌+◌, List, [], ◌∷◌, ◌++◌, drop, Bool, true, false, not, ◌&&◌, ◌||◌, ◌==◌, if◌then◌else◌, Some, None}
use Rattle.tokens.specs.Tokens.{PlainTokens}
use Rattle.tokens.specs.ByteClasses.{is_letter, is_digit, in_word, in_literal, is_space, in_line, in_string, is_escape, span}
use Rattle.tokens.specs.Lexing.{is_sign1, is_sign2, is_sign3, tokens_of_piece}

-- Stands in a string, behind a `\` or not.
abbrev pub accepts : Bool → ℕ → Bool
accepts true b = is_escape b
accepts false b = in_string b || b == 92

-- n and the length of a string after its first `"`, 0 where it isn't one.
abbrev pub string_len : ℕ → Bool → List ℕ → ℕ
string_len n after [] = 0
string_len n after (b ∷ bs) = if not after && b == 34 then suc n else (if accepts after b then string_len (suc n) (not after && b == 92) bs else 0)

-- n and the length of a comment after its `/*`, 0 where it isn't one.
abbrev pub block_len : ℕ → Bool → List ℕ → ℕ
block_len n star [] = 0
block_len n star (b ∷ bs) = if star && b == 47 then suc n else block_len (suc n) (b == 42) bs

-- A length and the bytes before, where there is a length.
abbrev pub beyond : ℕ → ℕ → ℕ
beyond n m = if m == 0 then 0 else n + m

-- The length of a comment after its first `/`, that included; 0 where it isn't one.
abbrev pub comment_len : List ℕ → ℕ
comment_len [] = 0
comment_len (b ∷ bs) = if b == 47 then suc (suc (span in_line bs)) else (if b == 42 then beyond 2 (block_len 0 false bs) else 0)

-- The length of a number, of that many digits and what follows.
abbrev pub number_len : ℕ → List ℕ → ℕ
number_len n [] = n
number_len n (b ∷ bs) = if b == 39 then suc (n + span in_literal bs) else n

-- The length of a system name after its $, that included; 0 where it isn't one.
abbrev pub system_len : List ℕ → ℕ
system_len [] = 0
system_len (b ∷ bs) = if is_letter b then suc (suc (span in_word bs)) else 0

-- The length of an operator of one byte at the front, 0 where none is.
abbrev pub sign_len1 : List ℕ → ℕ
sign_len1 [] = 0
sign_len1 (a ∷ r) = if is_sign1 a then 1 else 0

-- The length of the longest operator of at most two bytes at the front, 0 where none is.
abbrev pub sign_len2 : List ℕ → ℕ
sign_len2 [] = 0
sign_len2 (a ∷ []) = sign_len1 (a ∷ [])
sign_len2 (a ∷ b ∷ r) = if is_sign2 a b then 2 else sign_len1 (a ∷ b ∷ r)

-- The length of the longest operator at the front, 0 where none is.
abbrev pub sign_len : List ℕ → ℕ
sign_len [] = 0
sign_len (a ∷ []) = sign_len2 (a ∷ [])
sign_len (a ∷ b ∷ []) = sign_len2 (a ∷ b ∷ [])
sign_len (a ∷ b ∷ c ∷ r) = if is_sign3 a b c then 3 else sign_len2 (a ∷ b ∷ c ∷ r)

-- The length of the longest piece at the front, 0 where none is.
unfoldable pub piece_len : List ℕ → ℕ
piece_len [] = 0
piece_len (b ∷ bs) =
    if is_letter b then suc (span in_word bs)
    else (if is_digit b then number_len (suc (span is_digit bs)) (drop (span is_digit bs) bs)
    else (if is_space b then 1
    else (if b == 34 then beyond 1 (string_len 0 false bs)
    else (if b == 47 then comment_len bs
    else (if b == 36 then system_len bs
    else sign_len (b ∷ bs))))))

-- What reading a piece does to the tokens found.
abbrev pub AddsTokens : List ℕ → PlainTokens → Bool → PlainTokens → Type 0
AddsTokens piece old true new = (us : PlainTokens) × (tokens_of_piece piece ≡ Some us) × (new ≡ old ++ us)
AddsTokens piece old false new = tokens_of_piece piece ≡ None

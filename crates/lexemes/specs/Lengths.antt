-- What the functions that find pieces compute. The public contracts don't speak of it.
use Rattle.std.specs.Prelude.{ℕ, suc, ◌+◌, List, [], ◌∷◌, drop, Bool, false, not, ◌&&◌, ◌==◌, if◌then◌else◌}
use Rattle.lexemes.specs.ByteClasses.{begins_name, is_decimal_digit, in_identifier, in_digits, in_based, is_visible, is_white_space, in_line_comment, is_base_letter, is_signed_letter, is_exponent_letter, is_plus_or_minus, run_length}
use Rattle.lexemes.specs.Lexing.{is_one_byte_sign, is_two_byte_sign, is_three_byte_sign}

-- n and the length of a string after its first `"`, 0 where it isn't one.
abbrev pub string_length : ℕ → Bool → List ℕ → ℕ
string_length n after [] = 0
string_length n after (b ∷ bs) = if not after && b == 34 then suc n else (if b == 10 then 0 else string_length (suc n) (not after && b == 92) bs)

-- n and the length of a comment after its `/*`, 0 where it isn't one.
abbrev pub block_comment_length : ℕ → Bool → List ℕ → ℕ
block_comment_length n star [] = 0
block_comment_length n star (b ∷ bs) = if star && b == 47 then suc n else block_comment_length (suc n) (b == 42) bs

-- A length and the bytes before, where there is a length.
abbrev pub length_beyond : ℕ → ℕ → ℕ
length_beyond n m = if m == 0 then 0 else n + m

-- The length of a comment after its first `/`, that included; 0 where it isn't one.
abbrev pub comment_length : List ℕ → ℕ
comment_length [] = 0
comment_length (b ∷ bs) = if b == 47 then suc (suc (run_length in_line_comment bs)) else (if b == 42 then length_beyond 2 (block_comment_length 0 false bs) else 0)

-- The length of a comment, or else of a `/`, after that byte, that included.
abbrev pub slash_len : List ℕ → ℕ
slash_len bs = if comment_length bs == 0 then 1 else comment_length bs

-- The length of digits at the front, 0 where none is.
abbrev pub digits_len : List ℕ → ℕ
digits_len [] = 0
digits_len (b ∷ bs) = if is_decimal_digit b then suc (run_length in_digits bs) else 0

-- The length of a fraction at the front, 0 where none is.
abbrev pub fraction_len : List ℕ → ℕ
fraction_len [] = 0
fraction_len (b ∷ bs) = if b == 46 then length_beyond 1 (digits_len bs) else 0

-- The length of digits at the front, with a sign or without, 0 where none are.
abbrev pub signed_len : List ℕ → ℕ
signed_len [] = 0
signed_len (b ∷ bs) = if is_plus_or_minus b then length_beyond 1 (digits_len bs) else digits_len (b ∷ bs)

-- The length of an exponent at the front, 0 where none is.
abbrev pub exponent_len : List ℕ → ℕ
exponent_len [] = 0
exponent_len (b ∷ bs) = if is_exponent_letter b then length_beyond 1 (signed_len bs) else 0

-- The length of a fraction of this length and of the exponent behind it.
abbrev pub fraction_and_exponent_len : ℕ → List ℕ → ℕ
fraction_and_exponent_len n text = n + exponent_len (drop n text)

-- The length of a number whose digits before a fraction are so many.
abbrev pub whole_len : ℕ → List ℕ → ℕ
whole_len n text = n + fraction_and_exponent_len (fraction_len (drop n text)) (drop n text)

-- The length of a number at the front of a text that begins with a digit.
abbrev pub number_length : List ℕ → ℕ
number_length text = whole_len (run_length in_digits text) text

-- The length of a system name after its $, that included; 0 where it isn't one.
abbrev pub system_name_length : List ℕ → ℕ
system_name_length [] = 0
system_name_length (b ∷ bs) = if in_identifier b then suc (suc (run_length in_identifier bs)) else 0

-- The length of a directive's name after its `, that included; 0 where it isn't one.
abbrev pub directive_len : List ℕ → ℕ
directive_len [] = 0
directive_len (b ∷ bs) = if begins_name b then suc (suc (run_length in_identifier bs)) else 0

-- The length of a base after its ' and s, that included; 0 where it isn't one.
abbrev pub base_letter_len : List ℕ → ℕ
base_letter_len [] = 0
base_letter_len (b ∷ bs) = if is_base_letter b then 3 else 0

-- The length of a base after its ', that included; 0 where it isn't one.
abbrev pub base_len : List ℕ → ℕ
base_len [] = 0
base_len (b ∷ bs) = if is_base_letter b then 2 else (if is_signed_letter b then base_letter_len bs else 0)

-- The length of a joint of lines after its `\` and carriage return; 0 where it isn't one.
abbrev pub newline_len : List ℕ → ℕ
newline_len [] = 0
newline_len (b ∷ bs) = if b == 10 then 3 else 0

-- The length of an escaped name, or of a joint of lines, after its `\`, that included; 0 where it isn't one.
abbrev pub escaped_len : List ℕ → ℕ
escaped_len [] = 0
escaped_len (b ∷ bs) = if is_visible b then suc (suc (run_length is_visible bs)) else (if b == 10 then 2 else (if b == 13 then newline_len bs else 0))

-- The length of an operator of one byte at the front, 0 where none is.
abbrev pub sign_length1 : List ℕ → ℕ
sign_length1 [] = 0
sign_length1 (a ∷ r) = if is_one_byte_sign a then 1 else 0

-- The length of the longest operator of at most two bytes at the front, 0 where none is.
abbrev pub sign_length2 : List ℕ → ℕ
sign_length2 [] = 0
sign_length2 (a ∷ []) = sign_length1 (a ∷ [])
sign_length2 (a ∷ b ∷ r) = if is_two_byte_sign a b then 2 else sign_length1 (a ∷ b ∷ r)

-- The length of the longest operator at the front, 0 where none is.
abbrev pub sign_length : List ℕ → ℕ
sign_length [] = 0
sign_length (a ∷ []) = sign_length2 (a ∷ [])
sign_length (a ∷ b ∷ []) = sign_length2 (a ∷ b ∷ [])
sign_length (a ∷ b ∷ c ∷ r) = if is_three_byte_sign a b c then 3 else sign_length2 (a ∷ b ∷ c ∷ r)

-- The length of the longest piece at the front, by its first byte, if that is a mark that begins longer pieces.
unfoldable pub marked_len : List ℕ → ℕ
marked_len [] = 0
marked_len (b ∷ bs) =
    if b == 34 then length_beyond 1 (string_length 0 false bs)
    else (if b == 47 then slash_len bs
    else (if b == 36 then system_name_length bs
    else (if b == 39 then base_len bs
    else (if b == 92 then escaped_len bs
    else (if b == 96 then directive_len bs
    else sign_length (b ∷ bs))))))

-- The length of the longest piece at the front, 0 where none is.
unfoldable pub piece_length : List ℕ → ℕ
piece_length [] = 0
piece_length (b ∷ bs) =
    if begins_name b then suc (run_length in_identifier bs)
    else (if is_decimal_digit b then number_length (b ∷ bs)
    else (if is_white_space b then 1
    else marked_len (b ∷ bs)))

-- The length of the longest piece at the front, behind a base or not.
unfoldable pub next_len : Bool → List ℕ → ℕ
next_len after [] = 0
next_len after (b ∷ bs) = if after && in_based b then suc (run_length in_based bs) else piece_length (b ∷ bs)

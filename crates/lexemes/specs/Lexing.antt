-- How a text is cut into tokens, space and comments, the longest piece first (IEEE 1364-2005, 3).
use Rattle.std.specs.Prelude.{◌≡◌, ℕ, ◌+◌, ◌≤◌, List, [], ◌∷◌, ◌++◌, length, Bool, true, false, not, ◌&&◌, ◌||◌, ◌==◌, if◌then◌else◌}
use Rattle.lexemes.specs.declared.token.VerilogLexeme.{VerilogLexeme}
use Rattle.lexemes.specs.ByteClasses.{begins_name, is_decimal_digit, in_identifier, in_digits, in_based, is_visible, is_white_space, in_line_comment, is_base_letter, is_signed_letter, is_exponent_letter, is_plus_or_minus, all_bytes, has_no_bytes}
use Rattle.lexemes.specs.Kinds.{lexeme_kind, is_blank_piece, after_piece}

-- ---- operators and punctuation, but for the slash, which may begin a comment

-- One byte: ( ) [ ] { } , ; . : = # @ ! ~ * % + - < > & ^ | ?
abbrev pub is_one_byte_sign : ℕ → Bool
is_one_byte_sign a =
    a == 40 || a == 41 || a == 91 || a == 93 || a == 123 || a == 125 || a == 44 || a == 59 || a == 46 || a == 58
    || a == 61 || a == 35 || a == 64 || a == 33 || a == 126 || a == 42 || a == 37 || a == 43 || a == 45 || a == 60
    || a == 62 || a == 38 || a == 94 || a == 124 || a == 63

-- Two bytes that are a mark, an operator of a path or a power: (* *) -> +: -: => *> ** << >>
abbrev pub is_mark2 : ℕ → ℕ → Bool
is_mark2 a b = (a == 40 && b == 42) || (a == 42 && b == 41) || (a == 45 && b == 62) || (a == 43 && b == 58) || (a == 45 && b == 58) || (a == 61 && b == 62) || (a == 42 && b == 62) || (a == 42 && b == 42) || (a == 60 && b == 60) || (a == 62 && b == 62)

-- Two bytes that are an operator: <= >= == != ^~ ~^ ~& ~| && ||
abbrev pub is_operator2 : ℕ → ℕ → Bool
is_operator2 a b = (a == 60 && b == 61) || (a == 62 && b == 61) || (a == 61 && b == 61) || (a == 33 && b == 61) || (a == 94 && b == 126) || (a == 126 && b == 94) || (a == 126 && b == 38) || (a == 126 && b == 124) || (a == 38 && b == 38) || (a == 124 && b == 124)

-- Two bytes that are an operator or a mark.
abbrev pub is_two_byte_sign : ℕ → ℕ → Bool
is_two_byte_sign a b = is_mark2 a b || is_operator2 a b

-- Three bytes: &&& <<< >>> === !==
abbrev pub is_three_byte_sign : ℕ → ℕ → ℕ → Bool
is_three_byte_sign a b c =
    (a == 38 && b == 38 && c == 38) || (a == 60 && b == 60 && c == 60) || (a == 62 && b == 62 && c == 62)
    || (a == 61 && b == 61 && c == 61) || (a == 33 && b == 61 && c == 61)

-- ---- pieces: tokens, spaces and comments

-- The bytes of a string after its first `"`, behind a `\` or not: the next `"` that no `\` escapes is the last byte, and no newline stands before it (3.6).
abbrev pub ends_string : Bool → List ℕ → Bool
ends_string after [] = false
ends_string after (b ∷ bs) = if not after && b == 34 then has_no_bytes bs else (not (b == 10) && ends_string (not after && b == 92) bs)

-- The bytes of a comment after its `/*`, behind a `*` or not: the next `*/` is its end (3.3).
abbrev pub ends_comment : Bool → List ℕ → Bool
ends_comment star [] = false
ends_comment star (b ∷ bs) = if star && b == 47 then has_no_bytes bs else ends_comment (b == 42) bs

-- Digits: a digit, and then digits and _ (3.5).
abbrev pub are_decimal_digits : List ℕ → Bool
are_decimal_digits [] = false
are_decimal_digits (b ∷ bs) = is_decimal_digit b && all_bytes in_digits bs

-- The fraction of a number: none, or a point and digits (3.5.2).
abbrev pub is_fraction : List ℕ → Bool
is_fraction [] = true
is_fraction (b ∷ bs) = (b == 46) && are_decimal_digits bs

-- Digits, with a sign or without.
abbrev pub is_signed_digits : List ℕ → Bool
is_signed_digits [] = false
is_signed_digits (b ∷ bs) = if is_plus_or_minus b then are_decimal_digits bs else are_decimal_digits (b ∷ bs)

-- The exponent of a number: none, or an e and digits with a sign or without (3.5.2).
abbrev pub is_exponent : List ℕ → Bool
is_exponent [] = true
is_exponent (b ∷ bs) = is_exponent_letter b && is_signed_digits bs

-- A piece: a space, a comment of either form, a name or reserved word (3.7), an escaped name (3.7.1), a system name (3.7.3),
-- a directive's name (19), the joint of two lines, a number without a base (3.5.2), a base (3.5.1), a string (3.6), an
-- operator or a mark (3.4).
pub data IsTextPiece : List ℕ → Type 0 where
  space : {b : ℕ} → is_white_space b ≡ true → IsTextPiece (b ∷ [])
  line : {bs : List ℕ} → all_bytes in_line_comment bs ≡ true → IsTextPiece (47 ∷ 47 ∷ bs)
  block : {bs : List ℕ} → ends_comment false bs ≡ true → IsTextPiece (47 ∷ 42 ∷ bs)
  word : {b : ℕ} {bs : List ℕ} → begins_name b ≡ true → all_bytes in_identifier bs ≡ true → IsTextPiece (b ∷ bs)
  escaped : {b : ℕ} {bs : List ℕ} → is_visible b ≡ true → all_bytes is_visible bs ≡ true → IsTextPiece (92 ∷ b ∷ bs)
  joint : IsTextPiece (92 ∷ 10 ∷ [])
  joint_return : IsTextPiece (92 ∷ 13 ∷ 10 ∷ [])
  system : {b : ℕ} {bs : List ℕ} → in_identifier b ≡ true → all_bytes in_identifier bs ≡ true → IsTextPiece (36 ∷ b ∷ bs)
  directive : {b : ℕ} {bs : List ℕ} → begins_name b ≡ true → all_bytes in_identifier bs ≡ true → IsTextPiece (96 ∷ b ∷ bs)
  number : (ds fs es : List ℕ) → are_decimal_digits ds ≡ true → is_fraction fs ≡ true → is_exponent es ≡ true → IsTextPiece (ds ++ (fs ++ es))
  base : {b : ℕ} → is_base_letter b ≡ true → IsTextPiece (39 ∷ b ∷ [])
  signed_base : {a b : ℕ} → is_signed_letter a ≡ true → is_base_letter b ≡ true → IsTextPiece (39 ∷ a ∷ b ∷ [])
  quoted : {bs : List ℕ} → ends_string false bs ≡ true → IsTextPiece (34 ∷ bs)
  slash : IsTextPiece (47 ∷ [])
  sign1 : {a : ℕ} → is_one_byte_sign a ≡ true → IsTextPiece (a ∷ [])
  sign2 : {a b : ℕ} → is_two_byte_sign a b ≡ true → IsTextPiece (a ∷ b ∷ [])
  sign3 : {a b c : ℕ} → is_three_byte_sign a b c ≡ true → IsTextPiece (a ∷ b ∷ c ∷ [])

-- A piece where the token before is a base or not: what stands behind a base and could be its digits are its digits (3.5.1).
pub data IsTextPieceAfter : Bool → List ℕ → Type 0 where
  plain : {piece : List ℕ} → IsTextPiece piece → IsTextPieceAfter false piece
  digits : {b : ℕ} {bs : List ℕ} → in_based b ≡ true → all_bytes in_based bs ≡ true → IsTextPieceAfter true (b ∷ bs)
  other : {b : ℕ} {bs : List ℕ} → in_based b ≡ false → IsTextPiece (b ∷ bs) → IsTextPieceAfter true (b ∷ bs)

-- The longest piece with which a text begins, and what follows it.
pub record IsLongestPiece (after : Bool) (piece rest : List ℕ) : Type 0 where
  pub is_piece : IsTextPieceAfter after piece
  pub longest : (q r : List ℕ) → q ++ r ≡ piece ++ rest → IsTextPieceAfter after q → length q ≤ length piece

-- A star at the front.
abbrev pub begins_with_star : List ℕ → Bool
begins_with_star [] = false
begins_with_star (b ∷ bs) = b == 42

-- A slash before a star: a comment begins, whose end isn't there.
abbrev pub is_half_comment : List ℕ → List ℕ → Bool
is_half_comment [] rest = false
is_half_comment (a ∷ []) rest = (a == 47) && begins_with_star rest
is_half_comment (a ∷ b ∷ bs) rest = false

-- ---- the cut

-- The lexemes that a piece gives, none or one, by the file and the byte at which it begins.
abbrev pub lexemes_of : ℕ → ℕ → Bool → List ℕ → List VerilogLexeme
lexemes_of file begin after piece =
    if is_blank_piece piece then []
    else record { kind = lexeme_kind after piece; span = record { file = file; begin = begin; length = length piece } } ∷ []

-- A text that begins at a byte of a file, behind a base or not, is cut into these lexemes: again and again the longest piece is taken, up to the end.
pub data IsCutInto : ℕ → ℕ → Bool → List ℕ → List VerilogLexeme → Type 0 where
  ended : {file begin : ℕ} {after : Bool} → IsCutInto file begin after [] []
  next : {file begin : ℕ} {after : Bool} {piece rest : List ℕ} {ts : List VerilogLexeme} → IsLongestPiece after piece rest → is_half_comment piece rest ≡ false
      → IsCutInto file (begin + length piece) (after_piece after piece) rest ts → IsCutInto file begin after (piece ++ rest) (lexemes_of file begin after piece ++ ts)

-- Why a cut stops: no piece begins, and so a string isn't finished or the byte is stray; or a comment isn't finished.
pub data LexicalCause : Type 0 where
  stray : LexicalCause
  unfinished_string : LexicalCause
  unfinished_comment : LexicalCause

-- Why no piece begins, by the first byte.
abbrev pub cause_by_first : ℕ → LexicalCause
cause_by_first b = if b == 34 then unfinished_string else stray

-- The cut of a text, behind a base or not, stops at this byte, counted from 0.
pub data StopsCut : Bool → List ℕ → LexicalCause → ℕ → Type 0 where
  no_piece : {after : Bool} {b : ℕ} {text : List ℕ} → ((q r : List ℕ) → q ++ r ≡ b ∷ text → IsTextPieceAfter after q → ⊥) → StopsCut after (b ∷ text) (cause_by_first b) 0
  half : {after : Bool} {piece rest : List ℕ} → IsLongestPiece after piece rest → is_half_comment piece rest ≡ true → StopsCut after (piece ++ rest) unfinished_comment 0
  later : {after : Bool} {piece rest : List ℕ} {cause : LexicalCause} {n : ℕ} → IsLongestPiece after piece rest → is_half_comment piece rest ≡ false
      → StopsCut (after_piece after piece) rest cause n → StopsCut after (piece ++ rest) cause (length piece + n)

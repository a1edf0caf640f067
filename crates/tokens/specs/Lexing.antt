-- How a text is cut into tokens, space and comments, the longest piece first (IEEE 1364-2005, 3.1 to 3.7).
use Rattle.std.specs.Prelude.{◌≡◌, ℕ, ◌+◌, ◌≤◌, List, [], ◌∷◌, ◌++◌, length, Bool, true, false, not, ◌&&◌, ◌||◌, ◌==◌, if◌then◌else◌, Option, Some, None, option_map, codes}
use Rattle.std.specs.Str.{bytes_eq}
use Rattle.tokens.specs.declared.token.Kind.{Kind}
use Rattle.tokens.specs.declared.token.Kind.TheVariants as k
use Rattle.tokens.specs.Tokens.{PlainTokens}
use Rattle.tokens.specs.ByteClasses.{is_letter, is_digit, in_word, in_literal, is_space, in_line, in_string, is_escape, all}
use Rattle.tokens.specs.Literals.{is_empty, literal_value_of}

-- ---- operators and marks (3.4, A.8.6)

-- One byte: ! ~ & | ^ + - < > ? : = # @ ( ) [ ] { } , ;
abbrev pub is_sign1 : ℕ → Bool
is_sign1 a =
    a == 33 || a == 126 || a == 38 || a == 124 || a == 94 || a == 43 || a == 45 || a == 60 || a == 62 || a == 63 || a == 58
    || a == 61 || a == 35 || a == 64 || a == 40 || a == 41 || a == 91 || a == 93 || a == 123 || a == 125 || a == 44 || a == 59

-- Two bytes: << >> <= >= == != && ||
abbrev pub is_sign2 : ℕ → ℕ → Bool
is_sign2 a b =
    (a == 60 && b == 60) || (a == 62 && b == 62) || (a == 60 && b == 61) || (a == 62 && b == 61) || (a == 61 && b == 61)
    || (a == 33 && b == 61) || (a == 38 && b == 38) || (a == 124 && b == 124)

-- Three bytes: === !==
abbrev pub is_sign3 : ℕ → ℕ → ℕ → Bool
is_sign3 a b c = (a == 61 || a == 33) && b == 61 && c == 61

-- ---- pieces: tokens, spaces and comments

-- The bytes of a string after its first `"`, behind a `\` or not: the next `"` that no `\` escapes is the last byte (3.6).
abbrev pub is_string_rest : Bool → List ℕ → Bool
is_string_rest after [] = false
is_string_rest true (b ∷ bs) = is_escape b && is_string_rest false bs
is_string_rest false (b ∷ bs) = if b == 34 then is_empty bs else ((in_string b || b == 92) && is_string_rest (b == 92) bs)

-- The bytes of a comment after its `/*`, behind a `*` or not: the next `*/` is its end (3.3).
abbrev pub is_comment_rest : Bool → List ℕ → Bool
is_comment_rest star [] = false
is_comment_rest star (b ∷ bs) = if star && b == 47 then is_empty bs else is_comment_rest (b == 42) bs

-- A piece: a space, a comment of either form, a name or reserved word (3.7), a system name (3.7.3), a plain decimal, a
-- number with a size (3.5), a string, an operator or a mark. What looks like a number may be malformed.
pub data IsPiece : List ℕ → Type 0 where
  space : {b : ℕ} → is_space b ≡ true → IsPiece (b ∷ [])
  line : {bs : List ℕ} → all in_line bs ≡ true → IsPiece (47 ∷ 47 ∷ bs)
  block : {bs : List ℕ} → is_comment_rest false bs ≡ true → IsPiece (47 ∷ 42 ∷ bs)
  word : {b : ℕ} {bs : List ℕ} → is_letter b ≡ true → all in_word bs ≡ true → IsPiece (b ∷ bs)
  system : {b : ℕ} {bs : List ℕ} → is_letter b ≡ true → all in_word bs ≡ true → IsPiece (36 ∷ b ∷ bs)
  decimal : {b : ℕ} {bs : List ℕ} → is_digit b ≡ true → all is_digit bs ≡ true → IsPiece (b ∷ bs)
  sized : {b : ℕ} (bs cs : List ℕ) → is_digit b ≡ true → all is_digit bs ≡ true → all in_literal cs ≡ true → IsPiece (b ∷ (bs ++ 39 ∷ cs))
  quoted : {bs : List ℕ} → is_string_rest false bs ≡ true → IsPiece (34 ∷ bs)
  sign1 : {a : ℕ} → is_sign1 a ≡ true → IsPiece (a ∷ [])
  sign2 : {a b : ℕ} → is_sign2 a b ≡ true → IsPiece (a ∷ b ∷ [])
  sign3 : {a b c : ℕ} → is_sign3 a b c ≡ true → IsPiece (a ∷ b ∷ c ∷ [])

-- The longest piece with which a text begins, and what follows it.
pub record IsNext (piece rest : List ℕ) : Type 0 where
  pub is_piece : IsPiece piece
  pub longest : (q r : List ℕ) → q ++ r ≡ piece ++ rest → IsPiece q → length q ≤ length piece

-- ---- what a piece stands for

-- The first of two kinds that is there.
abbrev pub or_kind : Option Kind → Kind → Kind
or_kind None kind = kind
or_kind (Some kind) other = kind

-- Texts, each with the kind of its token.
abbrev pub KindTable : Type 0
KindTable = List (List ℕ × Kind)

-- The kind that a table has for a text.
abbrev pub kind_in : KindTable → List ℕ → Option Kind
kind_in [] t = None
kind_in (row ∷ rows) t = if bytes_eq t row.0 then Some row.1 else kind_in rows t

-- The reserved words (3.7.2).
unfoldable pub words : KindTable
words =
    (codes "module", k.Module) ∷ (codes "endmodule", k.EndModule) ∷ (codes "reg", k.Reg) ∷ (codes "initial", k.Initial) ∷ (codes "always", k.Always) ∷ (codes "begin", k.Begin) ∷ (codes "end", k.EndBlock) ∷
    (codes "if", k.If) ∷ (codes "else", k.Else) ∷ (codes "while", k.While) ∷ (codes "posedge", k.Posedge) ∷ (codes "negedge", k.Negedge) ∷ (codes "or", k.Or) ∷ []

-- The three system names that the grammar has (3.7.3).
unfoldable pub system_names : KindTable
system_names = (codes "$display", k.Display) ∷ (codes "$strobe", k.Strobe) ∷ (codes "$finish", k.Finish) ∷ []

-- The brackets, the comma and the semicolon; the operators, from the level that binds most to the one that binds least (5.1.2);
-- and the marks of assignments, delays and events.
unfoldable pub signs : KindTable
signs =
    (codes "(", k.Open) ∷ (codes ")", k.Close) ∷ (codes "[", k.OpenSquare) ∷ (codes "]", k.CloseSquare) ∷ (codes "{", k.OpenCurly) ∷ (codes "}", k.CloseCurly) ∷ (codes ",", k.Comma) ∷ (codes ";", k.Semicolon) ∷
    (codes "!", k.Bang) ∷ (codes "~", k.Tilde) ∷
    (codes "+", k.Plus) ∷ (codes "-", k.Minus) ∷
    (codes "<<", k.ShiftLeft) ∷ (codes ">>", k.ShiftRight) ∷
    (codes "<", k.Less) ∷ (codes "<=", k.AtMost) ∷ (codes ">", k.Greater) ∷ (codes ">=", k.AtLeast) ∷
    (codes "==", k.Equal) ∷ (codes "!=", k.NotEqual) ∷ (codes "===", k.Same) ∷ (codes "!==", k.NotSame) ∷
    (codes "&", k.Ampersand) ∷ (codes "^", k.Caret) ∷ (codes "|", k.Bar) ∷ (codes "&&", k.AndAnd) ∷ (codes "||", k.OrOr) ∷ (codes "?", k.Question) ∷ (codes ":", k.Colon) ∷
    (codes "=", k.Assign) ∷ (codes "#", k.Hash) ∷ (codes "@", k.At) ∷ []

-- The kind of a token that is no word of the grammar and no sign, by its first byte.
unfoldable pub kind_by_first : List ℕ → Kind
kind_by_first [] = k.End
kind_by_first (b ∷ bs) =
    if is_digit b then (if all is_digit bs then k.Decimal else k.Sized)
    else (if b == 34 then k.Text else (if b == 36 then k.System else k.Name))

-- The kind of a token that is no word of the grammar.
abbrev pub sign_kind : List ℕ → Kind
sign_kind t = or_kind (kind_in signs t) (kind_by_first t)

-- The kind of a token, by how it is spelled.
abbrev pub kind_of : List ℕ → Kind
kind_of t = or_kind (kind_in words t) (or_kind (kind_in system_names t) (sign_kind t))

-- A piece that is no token: a space or a comment.
abbrev pub is_skipped : List ℕ → Bool
is_skipped [] = false
is_skipped (b ∷ bs) = is_space b || b == 47

-- The tokens that a piece gives, one or none, if it isn't a number that is malformed or too wide.
unfoldable pub tokens_of_piece : List ℕ → Option PlainTokens
tokens_of_piece piece = if is_skipped piece then Some [] else option_map (λ w. record { kind = kind_of piece; text = piece; value = w.0; bits = w.1 } ∷ []) (literal_value_of piece)

-- The byte that an escape stands for, by the byte behind its `\`: \n, \t, \\ and \" (3.6.3).
abbrev pub unescaped : ℕ → ℕ
unescaped b = if b == 110 then 10 else (if b == 116 then 9 else b)

-- What a byte of a string adds to its text, behind a `\` or not.
abbrev pub string_byte_text : Bool → ℕ → List ℕ
string_byte_text true b = unescaped b ∷ []
string_byte_text false b = if b == 34 || b == 92 then [] else b ∷ []

-- What the bytes of a string add to its text, behind a `\` or not.
abbrev pub string_text_from : Bool → List ℕ → List ℕ
string_text_from after [] = []
string_text_from after (b ∷ bs) = string_byte_text after b ++ string_text_from (not after && b == 92) bs

-- The text of a string: without its quotes, and with its escapes replaced.
abbrev pub string_text : List ℕ → List ℕ
string_text t = string_text_from false t

-- ---- the cut

-- A text is cut into these tokens: again and again the longest piece is taken, up to the end.
pub data Cut : List ℕ → PlainTokens → Type 0 where
  ended : Cut [] []
  next : {piece rest : List ℕ} {us ts : PlainTokens} → IsNext piece rest → tokens_of_piece piece ≡ Some us → Cut rest ts → Cut (piece ++ rest) (us ++ ts)

-- Why a cut stops: no piece begins, or a number that is malformed or too wide.
pub data CutCause : Type 0 where
  stray : CutCause
  bad_number : CutCause

-- The cut of a text stops at this byte, counted from 0.
pub data Stops : List ℕ → CutCause → ℕ → Type 0 where
  no_piece : {b : ℕ} {text : List ℕ} → ((q r : List ℕ) → q ++ r ≡ b ∷ text → IsPiece q → ⊥) → Stops (b ∷ text) stray 0
  no_value : {piece rest : List ℕ} → IsNext piece rest → tokens_of_piece piece ≡ None → Stops (piece ++ rest) bad_number 0
  later : {piece rest : List ℕ} {us : PlainTokens} {cause : CutCause} {n : ℕ} → IsNext piece rest → tokens_of_piece piece ≡ Some us → Stops rest cause n → Stops (piece ++ rest) cause (length piece + n)

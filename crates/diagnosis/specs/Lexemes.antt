-- A text as lexemes, whatever it is: words, numbers, strings, and else single bytes.
use Rattle.std.specs.Prelude.{◌≡◌, ℕ, suc, ◌+◌, ◌-◌, ◌<◌, List, [], ◌∷◌, ◌++◌, length, Bool, false, not, ◌&&◌, ◌||◌, ◌==◌, if◌then◌else◌}
use Rattle.tokens.specs.ByteClasses.{is_letter, is_digit, in_word, in_number, in_line, span}
use Rattle.locations.specs.Spots.{skip_len, Skips}

-- A lexeme, its first byte, and the one behind its last, counted from 0.
pub record PlainLexeme : Type 0 where
  pub text : List ℕ
  pub begin : ℕ
  pub end : ℕ

-- Begins a word: a letter, _ or $.
abbrev pub begins_word : ℕ → Bool
begins_word b = is_letter b || b == 36

-- Begins a number: a digit, or ' where a size lacks.
abbrev pub begins_number : ℕ → Bool
begins_number b = is_digit b || b == 39

-- n and the length of a string behind its first `"`: up to the next one that isn't escaped, that included, or to the end of
-- its line.
abbrev pub lexeme_string_len : ℕ → Bool → List ℕ → ℕ
lexeme_string_len n after [] = n
lexeme_string_len n after (b ∷ bs) = if b == 10 then n else (if not after && b == 34 then suc n else lexeme_string_len (suc n) (not after && b == 92) bs)

-- The length of a lexeme that is no word, number or string: a comment that isn't finished goes to the end.
abbrev pub lexeme_sign_len : ℕ → List ℕ → ℕ
lexeme_sign_len b [] = 1
lexeme_sign_len b (c ∷ cs) = if b == 47 && c == 42 then suc (suc (length cs)) else 1

-- The length of the lexeme at the front; a backquote begins a directive, which goes to the end of its line.
unfoldable pub lexeme_len : List ℕ → ℕ
lexeme_len [] = 0
lexeme_len (b ∷ bs) =
    if begins_word b then suc (span in_word bs)
    else (if begins_number b then suc (span in_number bs)
    else (if b == 34 then suc (lexeme_string_len 0 false bs)
    else (if b == 96 then suc (span in_line bs)
    else lexeme_sign_len b bs)))

-- The lexemes of a text that begins at a byte: the spaces and comments in front are passed, then one is taken, up to the end.
pub data AreLexemes : List ℕ → ℕ → List PlainLexeme → Type 0 where
  ended : {text : List ℕ} {at : ℕ} → Skips text [] → AreLexemes text at []
  taken : {text rest : List ℕ} {at : ℕ} {ls : List PlainLexeme} (left piece : List ℕ) → Skips text left → skip_len left ≡ 0 → left ≡ piece ++ rest → 0 < length piece → lexeme_len left ≡ length piece
      → AreLexemes rest (at + (length text - length rest)) ls → AreLexemes text at (record { text = piece; begin = at + (length text - length left); end = at + (length text - length rest) } ∷ ls)

-- Tokens with the bytes at which they begin, by the cut of a text into its longest pieces.
use Rattle.std.specs.Prelude.{◌≡◌, ℕ, ◌+◌, List, [], ◌∷◌, ◌++◌, length, ◌==◌, if◌then◌else◌, Some}
use Rattle.tokens.specs.Tokens.{PlainToken}
use Rattle.tokens.specs.ByteClasses.{is_space}
use Rattle.tokens.specs.Lexing.{IsNext, tokens_of_piece, Stops, stray, bad_number}
use Rattle.tokens.specs.declared.cut.CutFault.{CutFault}
use Rattle.tokens.specs.declared.cut.CutFault.TheVariants as fault
use Rattle.tokens.specs.Lengths.{comment_len}

-- A token, and its first byte, counted from 0.
pub record PlainSpot : Type 0 where
  pub token : PlainToken
  pub byte : ℕ

-- These are the tokens of a text's cut, each with its first byte, where the text begins at a byte: again and again the
-- longest piece is taken, up to the end, and a piece gives no token or one.
pub data AreSpots : List ℕ → ℕ → List PlainSpot → Type 0 where
  ended : {at : ℕ} → AreSpots [] at []
  skipped : {piece rest : List ℕ} {at : ℕ} {ss : List PlainSpot} → IsNext piece rest → tokens_of_piece piece ≡ Some [] → AreSpots rest (at + length piece) ss → AreSpots (piece ++ rest) at ss
  taken : {piece rest : List ℕ} {at : ℕ} {t : PlainToken} {ss : List PlainSpot} → IsNext piece rest → tokens_of_piece piece ≡ Some (t ∷ []) → AreSpots rest (at + length piece) ss → AreSpots (piece ++ rest) at (record { token = t; byte = at } ∷ ss)

-- The length of the space or the comment at the front, 0 where none is.
abbrev pub skip_len : List ℕ → ℕ
skip_len [] = 0
skip_len (b ∷ bs) = if is_space b then 1 else (if b == 47 then comment_len bs else 0)

-- The second text is what stands behind some spaces and comments of the first.
pub data Skips : List ℕ → List ℕ → Type 0 where
  here : {text : List ℕ} → Skips text text
  behind : {piece rest left : List ℕ} → IsNext piece rest → tokens_of_piece piece ≡ Some [] → Skips rest left → Skips (piece ++ rest) left

-- Why a text isn't cut into tokens: where its cut stops, or memory is refused.
abbrev pub IsUncut : List ℕ → CutFault → Type 0
IsUncut text (fault.Stray location) = Stops text stray location
IsUncut text (fault.BadNumber location) = Stops text bad_number location
IsUncut text fault.Memory = Unit {0}

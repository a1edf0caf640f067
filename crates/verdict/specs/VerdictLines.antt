-- The lines of texts, each with its newline, and the first in which two texts differ.
use Rattle.std.specs.Prelude.{◌≡◌, ◌≢◌, ℕ, ◌+◌, ◌==◌, min, List, [], ◌∷◌, length, take, drop}
use Rattle.std.specs.List.{position_or_len}

-- the length of the first line of a text, with its newline, or of all where there is none
abbrev pub line_length : List ℕ → ℕ
line_length text = min (position_or_len (λ b. b == 10) text + 1) (length text)

-- the first line of a text
abbrev pub first_line : List ℕ → List ℕ
first_line text = take (line_length text) text

-- what stands behind the first line of a text
abbrev pub behind_line : List ℕ → List ℕ
behind_line text = drop (line_length text) text

-- these are the first lines of a text, and the last list is what stands behind them
abbrev pub AreFirstLines : List (List ℕ) → List ℕ → List ℕ → Type 0
AreFirstLines [] text left = text ≡ left
AreFirstLines (line ∷ lines) text left = (line ≡ first_line text) × AreFirstLines lines (behind_line text) left

-- Two texts begin with the same lines, of which there are one fewer than a number, and this is what is left of each.
pub record AgreeBefore (number : ℕ) (one other left right : List ℕ) : Type 0 where
  pub lines : List (List ℕ)
  pub of_one : AreFirstLines lines one left
  pub of_other : AreFirstLines lines other right
  pub count : number ≡ length lines + 1

-- The lines of two texts before one with this number are the same, and these are that line of each, which differ.
pub record IsFirstDifference (one other : List ℕ) (number : ℕ) (first second : List ℕ) : Type 0 where
  pub left : List ℕ
  pub right : List ℕ
  pub agree : AgreeBefore number one other left right
  pub first_is : first ≡ first_line left
  pub second_is : second ≡ first_line right
  pub differ : first ≢ second

-- two texts have the same lines
pub record HaveSameLines (one other : List ℕ) : Type 0 where
  pub lines : List (List ℕ)
  pub of_one : AreFirstLines lines one []
  pub of_other : AreFirstLines lines other []

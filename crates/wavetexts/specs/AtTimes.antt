-- Observed texts, line by line: printed lines, and lines of what is seen when time passes.
use Rattle.std.specs.Prelude.{ℕ, zero, suc, ◌+◌, ◌==◌, Bool, true, false, not, ◌&&◌, List, [], ◌∷◌, ◌++◌, flat_map, if◌then◌else◌}
use Rattle.std.specs.Ordering.{is_lt, nat_cmp}
use Rattle.std.specs.Cmp.Lexicographic.{slice_cmp}
use Rattle.looseruns.specs.RegisterObserver.{sight_mark}

-- the lines of a text, with a byte more before them
abbrev pub with_byte : ℕ → List (List ℕ) → List (List ℕ)
with_byte b [] = (b ∷ []) ∷ []
with_byte b (line ∷ lines) = if b == 10 then (b ∷ []) ∷ line ∷ lines else (b ∷ line) ∷ lines

-- the lines of a text, each with its newline
abbrev pub lines_of : List ℕ → List (List ℕ)
lines_of [] = []
lines_of (b ∷ bytes) = with_byte b (lines_of bytes)

-- a line begins what is seen when time passes
abbrev pub begins_sight : List ℕ → Bool
begins_sight [] = false
begins_sight (b ∷ bytes) = b == sight_mark

-- nothing is printed in a line: it begins what is seen, or the text has ended
abbrev pub prints_nothing : List ℕ → Bool
prints_nothing [] = true
prints_nothing (b ∷ bytes) = b == sight_mark

-- a line is a printed one, where so many lines of what is seen are left
abbrev pub is_printed : ℕ → List ℕ → Bool
is_printed left line = (left == 0) && not (begins_sight line)

-- how many lines of what is seen of so many registers are left behind a line, where so many were left before it
abbrev pub left_after : ℕ → List ℕ → ℕ → ℕ
left_after registers line zero = if begins_sight line then registers else 0
left_after registers line (suc left) = left

-- a line comes before another one, byte by byte
abbrev pub comes_before : List ℕ → List ℕ → Bool
comes_before one other = is_lt (slice_cmp nat_cmp one other)

-- lines in order, and one more in its place among them
abbrev pub lines_with : List ℕ → List (List ℕ) → List (List ℕ)
lines_with line [] = line ∷ []
lines_with line (other ∷ others) = if comes_before other line then other ∷ lines_with line others else line ∷ other ∷ others

-- a text of lines in order, and one more in its place among them
abbrev pub placed_line : List ℕ → List ℕ → List ℕ
placed_line line text = flat_map (λ l. l) (lines_with line (lines_of text))

-- The lines of a text, where so many lines of what is seen are left and these lines, in order, were printed since: the printed ones in order up to
-- what is seen next, then that, and so on.
abbrev pub arranged : ℕ → ℕ → List ℕ → List (List ℕ) → List ℕ
arranged registers left held [] = held
arranged registers left held (line ∷ lines) =
    (if is_printed left line then [] else (held ++ line))
    ++ arranged registers (left_after registers line left) (if is_printed left line then placed_line line held else []) lines

-- an observed text with the lines that are printed between two times in order
abbrev pub at_times : ℕ → List ℕ → List ℕ
at_times registers text = arranged registers 0 [] (lines_of text)

-- how many of these lines are printed ones
abbrev pub printed_among : ℕ → ℕ → List (List ℕ) → ℕ
printed_among registers left [] = 0
printed_among registers left (line ∷ lines) = (if is_printed left line then 1 else 0) + printed_among registers (left_after registers line left) lines

-- how many printed lines an observed text has
abbrev pub printed_lines : ℕ → List ℕ → ℕ
printed_lines registers text = printed_among registers 0 (lines_of text)

-- In what two observed texts part.
use Rattle.std.specs.Prelude.{◌≡◌, ◌⊎◌, ℕ, zero, suc, ◌-◌, Bool, true, false, ◌&&◌, List, [], ◌∷◌, length, take, drop, Option, Some, None, slice_get, option_and_then, unwrap_or, codes, if◌then◌else◌}
use Rattle.verdict.specs.declared.waves.WaveSite.{WaveSite}
use Rattle.verdict.specs.declared.waves.WaveSite.TheVariants.{Register, Line, Time, End}
use Rattle.verdict.specs.VerdictLines.{IsFirstDifference, HaveSameLines}
use Rattle.wavetexts.specs.AtTimes.{begins_sight, comes_before, left_after, lines_of, prints_nothing}
use Rattle.wavetexts.specs.declared.parting.Parting.{Parting}

-- the time in the line that begins what is seen: what stands between its mark and its newline
abbrev pub time_in : List ℕ → List ℕ
time_in [] = []
time_in (mark ∷ bytes) = take (length bytes - 1) bytes

-- when what is seen behind a line is, where so many lines of it were left before it
abbrev pub time_after : ℕ → List ℕ → List ℕ → List ℕ
time_after zero line time = if begins_sight line then time_in line else time
time_after (suc left) line time = time

-- behind these lines so many lines of what is seen are left, of this time
pub data TextStandsBehind (registers : ℕ) (left : ℕ) (time : List ℕ) : ℕ → List ℕ → List (List ℕ) → Type 0 where
  there : TextStandsBehind registers left time left time []
  on : (before : ℕ) (at : List ℕ) (line : List ℕ) (lines : List (List ℕ)) → TextStandsBehind registers left time (left_after registers line before) (time_after before line at) lines → TextStandsBehind registers left time before at (line ∷ lines)

-- before the line with this number of an observed text so many lines of what is seen are left, of this time
abbrev pub IsStandingBefore : ℕ → List ℕ → ℕ → ℕ → List ℕ → Type 0
IsStandingBefore registers text number left time = TextStandsBehind registers left time 0 [] (take (number - 1) (lines_of text))

-- the name of a register, and `?` where there is no such register
abbrev pub name_or_none : List (List ℕ) → ℕ → List ℕ
name_or_none names register = unwrap_or (slice_get names register) (codes "?")

-- the name of the one of these registers of which the line is with so many lines behind it and itself in what is seen
abbrev pub register_name : List (List ℕ) → List ℕ → ℕ → List ℕ
register_name names registers left = unwrap_or (option_and_then (slice_get names) (slice_get registers (length registers - left))) (codes "?")

-- A line that another text lacks where it has another one: nothing where nothing is printed in it, or where the other one is printed and comes before it. Where the lines of
-- each time are in order, the one that comes first stands in its text once more than in the other.
abbrev pub lacking_line : List ℕ → List ℕ → List ℕ
lacking_line line other =
    if prints_nothing line then [] else if prints_nothing other then line else if comes_before line other then line else []

-- in neither of two lines that differ is anything printed, and the times are told; or in one, and the line that one text lacks is told
abbrev pub IsLinePartingBy : Bool → List ℕ → List ℕ → Parting → Type 0
IsLinePartingBy true first second p = (p.site ≡ Time) × (p.first.now ≡ time_in first) × (p.second.now ≡ time_in second)
IsLinePartingBy false first second p = (p.site ≡ Line) × (p.first.now ≡ lacking_line first second) × (p.second.now ≡ lacking_line second first)

-- in what texts part whose first lines that differ aren't those of registers
abbrev pub IsLineParting : List ℕ → List ℕ → Parting → Type 0
IsLineParting first second p = IsLinePartingBy (prints_nothing first && prints_nothing second) first second p

-- a register is told by its name and the time
abbrev pub IsRegisterSite : List ℕ → List ℕ → WaveSite → Type 0
IsRegisterSite name time (Register told at) = (told.now ≡ name) × (at.now ≡ time)
IsRegisterSite name time Line = ⊥
IsRegisterSite name time Time = ⊥
IsRegisterSite name time End = ⊥

-- in what texts part that stand so before the first lines that differ: a register, where lines of what is seen are left
abbrev pub IsPartingAt : List (List ℕ) → List ℕ → ℕ → List ℕ → List ℕ → List ℕ → Parting → Type 0
IsPartingAt names registers zero time first second p = IsLineParting first second p
IsPartingAt names registers (suc left) time first second p =
    IsRegisterSite (register_name names registers (suc left)) time p.site × (p.first.now ≡ first) × (p.second.now ≡ second)

-- Two texts differ first in these lines, before which lines of what is seen are left or not, and so they part.
pub record PartsAtLines (names : List (List ℕ)) (registers : List ℕ) (one other : List ℕ) (p : Parting) : Type 0 where
  pub number : ℕ
  pub first : List ℕ
  pub second : List ℕ
  pub differ : IsFirstDifference one other number first second
  pub left : ℕ
  pub time : List ℕ
  pub stands : IsStandingBefore (length registers) one number left time
  pub at : IsPartingAt names registers left time first second p

-- two observed texts part first so, or in their ends alone
abbrev pub IsPartingOf : List (List ℕ) → List ℕ → List ℕ → List ℕ → Parting → Type 0
IsPartingOf names registers one other p = PartsAtLines names registers one other p ⊎ (HaveSameLines one other × (p.site ≡ End) × (p.first.now ≡ []) × (p.second.now ≡ []))

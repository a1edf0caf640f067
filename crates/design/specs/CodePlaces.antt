-- What a process has left to run at each place, and which places are a process's own.
use Rattle.std.specs.Prelude.{◌≡◌, ◌⊎◌, ℕ, ◌+◌, ◌<◌, ◌≤◌, List, [], ◌∷◌, ◌++◌, length, slice_index_or}
use Rattle.model.specs.Design.{Design, Process, Statement, Delay, Await, If, While, Statements, End, Then, inside, size, all_statements, first_place}
use Rattle.model.specs.Turns.{Remainder, At, parts}

-- What is left to run at the place of each of these statements and of those inside them, in the order of the text,
-- where this is left behind them.
abbrev mutual
  pub remainders : ℕ → Statements → Remainder → List Remainder
  remainders place End rest = []
  remainders place (Then s ss) rest =
      (At place ∷ (parts (place + 1 + length (inside s)) ss ++ rest)) ∷
      (remainders_inside place s (parts (place + 1 + length (inside s)) ss ++ rest) ++ remainders (place + 1 + length (inside s)) ss rest)

  pub remainders_inside : ℕ → Statement → Remainder → List Remainder
  remainders_inside place (Delay delay body) rest = remainders (place + 1) body rest
  remainders_inside place (Await triggers body) rest = remainders (place + 1) body rest
  remainders_inside place (If c body otherwise) rest = remainders (place + 1) body rest ++ remainders (place + 1 + size body) otherwise rest
  remainders_inside place (While c body) rest = remainders (place + 1) body (At place ∷ rest)
  remainders_inside place s rest = []

-- the same for the statements of processes, the first of them at this place
abbrev pub all_remainders : ℕ → List Process → List Remainder
all_remainders place [] = []
all_remainders place (p ∷ ps) = remainders place p.body [] ++ all_remainders (place + size p.body) ps

-- what is left to run at a place: nothing at the place of an end
abbrev pub remainder_at : Design → ℕ → Remainder
remainder_at design place = slice_index_or (all_remainders 0 design.processes) place []

-- the number of all statements
abbrev pub statement_count : Design → ℕ
statement_count design = length (all_statements design.processes)

-- the place of the end of a process: behind all statements
abbrev pub end_place : Design → ℕ → ℕ
end_place design p = statement_count design + p

-- a place is that of a statement of the process, or of its end
abbrev pub IsPlaceOf : Design → ℕ → ℕ → Type 0
IsPlaceOf design p place = ((first_place design p ≤ place) × (place < first_place design (p + 1))) ⊎ (place ≡ end_place design p)

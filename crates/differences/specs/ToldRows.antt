-- Which of the registers that differ are told.
use Rattle.std.specs.Prelude.{ℕ, ◌==◌, not, Bool, true, false, List, [], ◌∷◌}
use Rattle.std.specs.List.{filter, list_any}
use Rattle.differences.specs.declared.value_difference.ValueDifference.{ValueDifference}

-- one of these is of a register
abbrev pub has_row : ℕ → List ValueDifference → Bool
has_row r ds = list_any (λ d. d.register == r) ds

-- a register that differs, unless it was there
abbrev pub row_unless : Bool → ValueDifference → List ValueDifference
row_unless true d = []
row_unless false d = d ∷ []

-- those of other registers
abbrev pub other_rows : ℕ → List ValueDifference → List ValueDifference
other_rows r ds = filter (λ d. not (r == d.register)) ds

-- of each register the first one
abbrev pub first_rows : List ValueDifference → List ValueDifference
first_rows [] = []
first_rows (d ∷ ds) = d ∷ other_rows d.register (first_rows ds)

-- all of them, or of each register the first one
abbrev pub told_rows : Bool → List ValueDifference → List ValueDifference
told_rows true ds = ds
told_rows false ds = first_rows ds

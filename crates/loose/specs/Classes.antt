-- Classes of registers that stand in a row.
use Rattle.std.specs.Prelude.{ℕ, List, slice_index_or}

-- the class of a register, which stands at its place, and class 0 where none does
abbrev pub class_in : List ℕ → ℕ → ℕ
class_in classes r = slice_index_or classes r 0

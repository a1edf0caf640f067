-- Values that a register takes.
use Rattle.std.specs.Prelude.{◌≡◌, ℕ, ◌<◌, List, length, slice_index}
use Rattle.logic4.specs.Vector.{Vector}

-- a register is declared, and this is a value of its width (4.2)
abbrev pub FitsRegister : List ℕ → ℕ → Vector → Type 0
FitsRegister widths r v = (r < length widths) × (length v ≡ slice_index widths r)

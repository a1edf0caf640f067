-- Lists, each beside a number.
use Rattle.std.specs.Prelude.{◌≡◌, ℕ, ◌+◌, ◌≤◌, List, length, map, Some, slice_get, slice_range}
use Rattle.explore.specs.declared.pieces.NumberedSpan.{NumberedSpan}
use Rattle.explore.specs.declared.pieces.Pieces.{Pieces}

-- the number of a row, and its part of the arena
abbrev pub piece : {T : Type 0} → List T → NumberedSpan → ℕ × List T
piece arena row = (row.number, slice_range arena row.begin (row.begin + row.length))

-- the lists, each beside its number
abbrev pub pieces : {T : Type 0} → Pieces T → List (ℕ × List T)
pieces held = map (piece held.arena.items) held.rows.items

-- the part of each row is there
abbrev pub ArePieces : {T : Type 0} → Pieces T → Type 0
ArePieces held = (k : ℕ) (row : NumberedSpan) → slice_get held.rows.items k ≡ Some row → row.begin + row.length ≤ length held.arena.items

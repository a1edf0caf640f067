-- The slots of a table, which count where they have its stamp.
use Rattle.std.specs.Prelude.{ℕ, ◌==◌, if◌then◌else◌, Option, Some, None}
use Rattle.logic4.specs.Vector.{Vector}
use Rattle.turn.specs.declared.table.Slot.{Slot}

-- the value of a slot in a table with this stamp, where it counts
abbrev pub known_in : ℕ → Slot → Option Vector
known_in stamp slot = if slot.stamp == stamp then Some slot.value else None

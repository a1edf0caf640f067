-- The passes of a seat and of the holder, as what they have seen.
use Rattle.std.specs.Prelude.{◌≡◌, ℕ, ◌<◌, List, map, length, slice_get, Some}
use Rattle.crossbeam_utils.specs.Seq.{cell_view}
use Rattle.atomic_table.specs.declared.shared.Seat.{Seat}
use Rattle.crossbeam_utils.specs.declared.atomic.seq_cell.Doing.{Doing}
use Rattle.logic4.specs.Vector.{Vector}
use Rattle.regcells.specs.declared.rule.View.{View}
use Rattle.regcells.specs.declared.register.Register.{Register}
use Rattle.regcells.specs.RegisterRule.{holder}
use Rattle.regcells.specs.Values.{register_width, last_value}
use Rattle.regcells.specs.CellSeats.{RegisterIdentity, Fresh}

abbrev pub RegPass : Type 0
RegPass = Seat (List ℕ) (Doing (List ℕ) View)

-- the values that a pass has seen
abbrev pub seen_by : RegPass → List Vector
seen_by p = (cell_view p).seen

-- the register of a pass
abbrev pub name_of_pass : RegPass → RegisterIdentity
name_of_pass p = record { cell = p.table_id; width = register_width (seen_by p) }

-- what tells a register from others
abbrev pub name_of_register : Register → RegisterIdentity
name_of_register r = record { cell = r.cell.table.shared.table_id; width = r.width }

-- what the passes have seen
abbrev pub fresh_by : List RegPass → Fresh
fresh_by passes = record { cells = map name_of_pass passes; seen = map seen_by passes }

-- it has seen a value
abbrev pub HasSeenValue : RegPass → Type 0
HasSeenValue p = 0 < length (seen_by p)

-- each has seen a value
abbrev pub AllBegun : List RegPass → Type 0
AllBegun passes = (k : ℕ) (p : RegPass) → slice_get passes k ≡ Some p → HasSeenValue p

-- it is the holder's, and the last value has the register's width
pub record IsHolding (p : RegPass) : Type 0 where
  pub all : cell_view p ≡ holder (seen_by p)
  pub begun : 0 < length (seen_by p)
  pub width : length (last_value (seen_by p)) ≡ register_width (seen_by p)

-- each knows its register's whole list
abbrev pub AllHold : List RegPass → Type 0
AllHold passes = (k : ℕ) (p : RegPass) → slice_get passes k ≡ Some p → IsHolding p

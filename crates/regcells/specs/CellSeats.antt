-- What a seat or the holder knows of all registers.
use Rattle.std.specs.Prelude.{◌≡◌, ℕ, List, [], ◌∷◌, map, length, slice_index_or, slice_set}
use Rattle.atomic_table.specs.Seated.{TableId}
use Rattle.logic4.specs.Vector.{Vector, unknown}
use Rattle.regcells.specs.Values.{last_value, room_of}

-- a register: what tells its cell from all others, and its width
pub record RegisterIdentity : Type 0 where
  pub cell : TableId
  pub width : ℕ

-- the widths of registers
abbrev pub register_widths : List RegisterIdentity → List ℕ
register_widths registers = map (λ r. r.width) registers

-- which registers they are, and of each of them the values that were seen
pub record Fresh : Type 0 where
  pub cells : List RegisterIdentity
  pub seen : List (List Vector)

-- what was seen of one register
abbrev pub seen_of : Fresh → ℕ → List Vector
seen_of f r = slice_index_or f.seen r []

-- the same registers, where these values of one of them were seen
abbrev pub with_seen : Fresh → ℕ → List Vector → Fresh
with_seen f r values = record { cells = f.cells; seen = slice_set f.seen r values }

-- at the start each register's values are all x alone
abbrev pub beginnings : List ℕ → List (List Vector)
beginnings widths = map (λ w. unknown w ∷ []) widths

-- the last value of each register
abbrev pub last_values : Fresh → List Vector
last_values f = map last_value f.seen

-- how many changes a register still takes
abbrev pub changes_left : Fresh → ℕ → ℕ
changes_left f r = room_of (seen_of f r)

-- it is of these registers, and its last value of each has the register's width
pub record IsOfRegisters (registers : List RegisterIdentity) (f : Fresh) : Type 0 where
  pub cells : f.cells ≡ registers
  pub widths : map length (last_values f) ≡ register_widths registers

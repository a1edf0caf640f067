-- The list of a register's values.
use Rattle.std.specs.Prelude.{ℕ, ◌-◌, ◌^◌, List, [], ◌∷◌, ◌++◌, length}
use Rattle.logic4.specs.Vector.{Vector}
use Rattle.turn.specs.TurnChanges.{altered}
use Rattle.regions.specs.Past.{last_of}

-- the width of a register is that of its first value
abbrev pub register_width : List Vector → ℕ
register_width [] = 0
register_width (v ∷ values) = length v

-- the last value
abbrev pub last_value : List Vector → Vector
last_value values = last_of [] values

-- the values after a register was given some more, one after another: each that differs from the one before it is added
abbrev pub values_after : List Vector → List Vector → List Vector
values_after values given = values ++ altered (last_value values) given

-- how many values a register still takes, since its versions are below 2 to the 64
abbrev pub room_of : List Vector → ℕ
room_of values = 2 ^ 64 - length values

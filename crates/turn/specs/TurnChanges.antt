-- The net effect of writes, register by register.
use Rattle.std.specs.Prelude.{◌≡◌, ℕ, ◌+◌, Bool, false, ◌==◌, if◌then◌else◌, List, [], ◌∷◌, Some, slice_get}
use Rattle.std.specs.Option.{option_map_or}
use Rattle.logic4.specs.Vector.{Vector}
use Rattle.logic4.specs.Operators.{same_vector}
use Rattle.turn.specs.declared.log.TurnChange.{TurnChange}

-- those of some values that differ from the value before them, where this one stands before the first
abbrev pub altered : Vector → List Vector → List Vector
altered old [] = []
altered old (v ∷ vs) = if same_vector old v then altered old vs else v ∷ altered v vs

-- the turn change of a first write
abbrev pub first_turn_change : ℕ × Vector → TurnChange
first_turn_change w = record { register = w.0; first = w.1; changes = 0; last = w.1 }

-- how many of the later writes changed a register, with one more
abbrev pub one_more_change : Bool → ℕ → ℕ
one_more_change same changes = if same then changes else changes + 1

-- the turn change of a register with one more write of it
abbrev pub change_with_write : TurnChange → Vector → TurnChange
change_with_write n v = record { register = n.register; first = n.first; changes = one_more_change (same_vector n.last v) n.changes; last = v }

-- one more write: in the turn change of its register, or as a new turn change behind the others
abbrev pub noted : List TurnChange → ℕ × Vector → List TurnChange
noted [] w = first_turn_change w ∷ []
noted (n ∷ ns) w = if n.register == w.0 then change_with_write n w.1 ∷ ns else n ∷ noted ns w

-- more writes, in order
abbrev pub turn_changes_after : List TurnChange → List (ℕ × Vector) → List TurnChange
turn_changes_after turn_changes [] = turn_changes
turn_changes_after turn_changes (w ∷ ws) = turn_changes_after (noted turn_changes w) ws

-- The turn changes of writes: one for each register that is written, in the order of the first writes, with the first value
-- written, how many of the later writes changed it, and the last value.
abbrev pub turn_changes_of : List (ℕ × Vector) → List TurnChange
turn_changes_of writes = turn_changes_after [] writes

-- whether a turn change at a place is that of a register
abbrev pub is_turn_change_at : List TurnChange → ℕ → ℕ → Bool
is_turn_change_at turn_changes place r = option_map_or (λ n. n.register == r) (slice_get turn_changes place) false

-- the table says of the register of each turn change where it stands
abbrev pub IsIndexOf : List TurnChange → List ℕ → Type 0
IsIndexOf turn_changes places = (place : ℕ) (n : TurnChange) → slice_get turn_changes place ≡ Some n → slice_get places n.register ≡ Some place

-- no turn change is that of a register
abbrev pub HasNoTurnChange : List TurnChange → ℕ → Type 0
HasNoTurnChange turn_changes r = (place : ℕ) → is_turn_change_at turn_changes place r ≡ false

-- what a turn keeps of its writes: their turn changes, and where each stands
pub record AreTurnChanges (writes : List (ℕ × Vector)) (turn_changes : List TurnChange) (places : List ℕ) : Type 0 where
  pub all : turn_changes ≡ turn_changes_of writes
  pub placed : IsIndexOf turn_changes places

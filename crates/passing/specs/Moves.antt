-- The moves of registers that are tracked, as a test of which values these may pass to.
use Rattle.std.specs.Prelude.{◌≡◌, ℕ, Bool, true, not, ◌&&◌, ◌||◌, ◌==◌, List}
use Rattle.std.specs.List.{All, Contains, list_any}
use Rattle.logic4.specs.Vector.{Vector}
use Rattle.logic4.specs.Operators.{same_vector}
use Rattle.model.specs.Turns.{contains}
use Rattle.certificates.specs.declared.changes.NotedChange.{NotedChange}
use Rattle.heldways.specs.Passing.{Passing}
use Rattle.passing.specs.declared.moves.TrackedMoves.{TrackedMoves}

-- whether a move from one value to another is in a list
abbrev pub is_move : List NotedChange → ℕ → Vector → Vector → Bool
is_move list r old new =
    list_any (λ m. ((m.register == r) && same_vector m.before old) && same_vector m.after new) list

-- A register that is tracked may pass from a value to the same, and where a move goes; any other from any value to any.
abbrev pub passes_by : TrackedMoves → Passing
passes_by moves r old new = not (contains moves.tracked.items r) || (same_vector old new || is_move moves.list.items r old new)

-- the move of a register from one value to another
abbrev pub move_of : ℕ → Vector → Vector → NotedChange
move_of r old new = record { register = r; before = old; after = new }

-- these values have each to which a move of a register goes
abbrev pub HaveAfter : List NotedChange → ℕ → List Vector → Type 0
HaveAfter list r values = All (λ own. own.register ≡ r → Contains values own.after) list

-- where a move goes on from another one of its register, there is a move through both, or it leads back
abbrev pub LeadsThrough : List NotedChange → NotedChange → NotedChange → Type 0
LeadsThrough list one other =
    one.register ≡ other.register → one.after ≡ other.before
    → (same_vector one.before other.after || is_move list one.register one.before other.after) ≡ true

-- moves go on from each other
abbrev pub AllLeadThrough : List NotedChange → Type 0
AllLeadThrough list = All (λ one. All (LeadsThrough list one) list) list

-- Which changes an event control waits for.
use Rattle.std.specs.Prelude.{ℕ, Bool, ◌&&◌, ◌==◌, List}
use Rattle.std.specs.List.{list_any}
use Rattle.logic4.specs.declared.digit.Edge.{Edge}
use Rattle.model.specs.Design.{Trigger}
use Rattle.model.specs.States.{edge_matches}

-- whether an event control with these triggers matches a change of a register, which is of this kind (9.7.2)
abbrev pub wakes_by : List Trigger → ℕ → Edge → Bool
wakes_by triggers r e = list_any (λ t. (t.1 == r) && edge_matches t.0 e) triggers

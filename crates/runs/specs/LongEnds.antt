-- How a run ends by a turn that is too long.
use Rattle.std.specs.Prelude.{◌≡◌, ℕ, Some, None}
use Rattle.model.specs.declared.entry.Entry.{Entry}
use Rattle.model.specs.declared.entry.Entry.TheVariants.{Turn}
use Rattle.model.specs.declared.end.Why.TheVariants.{TooLong}
use Rattle.model.specs.declared.end.End.{End}
use Rattle.model.specs.declared.end.End.TheVariants.{Stopped}
use Rattle.model.specs.Design.{Design}
use Rattle.model.specs.States.{State, Evaluate}
use Rattle.model.specs.Runs.{action_in, turn_of}

-- the entry is the turn of a process, and it is too long
abbrev pub IsLongTurn : Design → State → Entry → ℕ → Type 0
IsLongTurn design s entry p =
    (number : ℕ) × (entry ≡ Turn number) × (action_in s.active number ≡ Some (Evaluate p)) × (turn_of design s p ≡ None)

-- where a run ends by a turn that is too long, it is this entry's
abbrev pub EndsByEntry : Design → State → Entry → End → Type 0
EndsByEntry design s entry (Stopped (TooLong p)) = IsLongTurn design s entry p
EndsByEntry design s entry _ = Unit {0}

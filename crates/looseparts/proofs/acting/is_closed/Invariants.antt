-- Of the choices so far each that the notes concern is one of the group.
use Rattle.std.proofs.Common.{◌≡◌, true, take}
use Rattle.std.specs.List.{All, Contains}
use Rattle.looseparts.specs.StandTogether.{concern}
use Rattle.looseparts.proofs.acting.is_closed.Given as goal

abbrev pub invariant-loop-choice : goal.invariant-loop-choice
invariant-loop-choice l = All (λ a. concern l.notes a ≡ true → Contains l.group a) (take l.choice-index l.choice-items)

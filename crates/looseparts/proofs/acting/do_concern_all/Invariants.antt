-- They concern each actor so far.
use Rattle.std.proofs.Common.{◌≡◌, true, take}
use Rattle.std.specs.List.{All}
use Rattle.looseparts.specs.StandTogether.{concern}
use Rattle.looseparts.proofs.acting.do_concern_all.Given as goal

abbrev pub invariant-loop-actor : goal.invariant-loop-actor
invariant-loop-actor l = All (λ a. concern l.notes a ≡ true) (take l.actor-index l.group)

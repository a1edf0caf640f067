-- They concern the actors of each way so far.
use Rattle.std.proofs.Common.{◌≡◌, true, take}
use Rattle.std.specs.List.{All}
use Rattle.looseparts.specs.StandTogether.{concern}
use Rattle.looseparts.proofs.repeats.do_concern_ways.Given as goal

abbrev pub invariant-loop-gone : goal.invariant-loop-gone
invariant-loop-gone l = All (λ gone. All (λ a. concern l.notes a ≡ true) gone.way.items) (take l.gone-index l.kept)

use Rattle.std.proofs.Common.{◌≡◌, map}
use Rattle.eventpool.specs.Ends.{owner_card}
use Rattle.tests_concurrent.proofs.deques.fill.Given as goal

abbrev pub invariant-loop-ticket : goal.invariant-loop-ticket
invariant-loop-ticket g l = map owner_card l.owners.items ≡ map owner_card l.initial.owners.items

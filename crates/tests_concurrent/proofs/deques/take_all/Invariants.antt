use Rattle.std.proofs.Common.{◌≡◌, map}
use Rattle.eventpool.specs.Ends.{owner_card}
use Rattle.tests_concurrent.proofs.deques.take_all.Given as goal

abbrev pub invariant-loop : goal.invariant-loop
invariant-loop g l = map owner_card l.owners.items ≡ map owner_card l.initial.owners.items

use Rattle.std.proofs.Common.{◌≡◌, map}
use Rattle.eventpool.specs.Ends.{thief_card}
use Rattle.tests_concurrent.proofs.deques.steal_all.Given as goal

abbrev pub invariant-loop : goal.invariant-loop
invariant-loop g l = map thief_card l.row.items ≡ map thief_card l.initial.row.items

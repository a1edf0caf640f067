use Rattle.std.proofs.Common.{◌≡◌}
use Rattle.eventpool.specs.Ends.{thief_card}
use Rattle.workers.proofs.deques.steal_one.Given as goal

abbrev pub invariant-loop : goal.invariant-loop
invariant-loop g l = (thief_card l.thief ≡ thief_card l.fn.thief) × (l.thief.stolen ≡ l.fn.thief.stolen)

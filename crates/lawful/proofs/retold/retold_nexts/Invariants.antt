-- Those so far are told.
use Rattle.lawful.specs.ObservedWays.{AreEach}
use Rattle.lawful.proofs.retold.retold_nexts.Given as goal

abbrev pub invariant-loop-next : goal.invariant-loop-next
invariant-loop-next g l = AreEach (g.T.WayTelling.tells_next l.telling) l.yielded l.told.items

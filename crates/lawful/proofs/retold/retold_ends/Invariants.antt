-- Those so far are told.
use Rattle.lawful.specs.ObservedWays.{AreEach}
use Rattle.lawful.proofs.retold.retold_ends.Given as goal

abbrev pub invariant-loop-path : goal.invariant-loop-path
invariant-loop-path g l = AreEach (g.T.WayTelling.tells_end l.telling) l.yielded l.told.items

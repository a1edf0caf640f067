-- One more is told.
use Rattle.lawful.proofs.ObservedWays.{one_more_each}
use Rattle.lawful.proofs.retold.retold_nexts.Goals as goal

pub loop-next-preserved : goal.loop-next-preserved
loop-next-preserved g c =
    one_more_each (g.T.WayTelling.tells_next c.args.telling.now) c.loop-next.yielded c.loop-next.told.items c.push.new.self.items c.in-Some.next c.in_ok-one.one c.in_ok-push.ensures.items c.loop-next.invariant c.in_ok-one.ensures

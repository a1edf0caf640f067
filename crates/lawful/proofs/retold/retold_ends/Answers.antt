-- One more is told.
use Rattle.lawful.proofs.ObservedWays.{one_more_each}
use Rattle.lawful.proofs.retold.retold_ends.Goals as goal

pub loop-path-preserved : goal.loop-path-preserved
loop-path-preserved g c =
    one_more_each (g.T.WayTelling.tells_end c.args.telling.now) c.loop-path.yielded c.loop-path.told.items c.push.new.self.items c.in-Some.path c.in_ok-one.one c.in_ok-push.ensures.items c.loop-path.invariant c.in_ok-one.ensures

-- One end more.
use Rattle.lawful.proofs.ByParts.{one_more_end}
use Rattle.lawful.proofs.by_parts.ends_of.Goals as goal

pub loop-next-preserved : goal.loop-next-preserved
loop-next-preserved c = one_more_end c.loop-next.yielded c.in-Some.next c.loop-next.ended.items c.push.new.self.items c.in_ok-end.end c.in_ok-push.ensures.items c.loop-next.invariant c.in_ok-end.ensures

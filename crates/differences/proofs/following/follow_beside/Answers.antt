-- The second run stands at its start.
use Rattle.differences.proofs.Follow.{followed_none}
use Rattle.differences.proofs.following.follow_beside.Goals as goal

pub follow-rows-requires-clause-other : goal.follow-rows-requires-clause-other
follow-rows-requires-clause-other c =
    followed_none c.args.runs.second.now c.args.runs.times.now c.in-Ok.other (c.in-Ok.ensures.followed c.args.runs.second.now) c.in-Ok.ensures.entries

-- The tickets of one more grant were put.
use Rattle.std.proofs.Common.{◌∙◌, rules}
use Rattle.workers.proofs.Seats.{goes_then}
use Rattle.workers.proofs.Keeping.{put_grant, puts_then}
use Rattle.workers.proofs.worker.RunContext.put_granted.Goals as goal

pub loop-grant-preserved : goal.loop-grant-preserved
loop-grant-preserved g c = record {
  goes = goes_then 0 0 _ _ _ c.loop-grant.invariant.goes c.put_all.ensures.goes;
  kept = c.put_all.ensures.kept c.in-GoesOn.is ∙ c.loop-grant.invariant.kept;
  puts = puts_then c.args.owner.now c.loop-grant.owner c.put_all.new.owner c.loop-grant.invariant.puts c.put_all.ensures.puts;
  all = put_grant c.loop-grant.owner.put c.put_all.new.owner.put _ _ _ c.in-Some.grant c.in-Some.ensures.steps.0 (c.put_all.ensures.all c.in-GoesOn.is) c.loop-grant.invariant.all;
  room = search rules;
}

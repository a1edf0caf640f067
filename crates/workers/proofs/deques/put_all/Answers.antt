-- Tickets were put, and one more.
use Rattle.std.proofs.Common.{◌∙◌}
use Rattle.workers.proofs.Seats.{goes_then}
use Rattle.workers.proofs.Keeping.{put_one, puts_then}
use Rattle.workers.proofs.deques.put_all.Goals as goal

pub loop-ticket-preserved : goal.loop-ticket-preserved
loop-ticket-preserved g c = record {
  goes = goes_then 0 0 _ _ _ c.loop-ticket.invariant.goes c.put.ensures.goes;
  kept = c.put.ensures.kept c.in-GoesOn.is ∙ c.loop-ticket.invariant.kept;
  puts = puts_then c.args.owner.now c.loop-ticket.owner c.put.new.owner c.loop-ticket.invariant.puts c.put.ensures.puts;
  all = put_one c.loop-ticket.owner.put c.put.new.owner.put _ _ _ _ c.in-Some.ensures.steps.0 (c.put.ensures.all c.in-GoesOn.is) c.loop-ticket.invariant.all;
}

-- What an answer gave was put.
use Rattle.std.proofs.Common.{◌∙◌, rules}
use Rattle.workers.proofs.Seats.{goes_then}
use Rattle.workers.proofs.Keeping.{put_answer, puts_then}
use Rattle.workers.proofs.worker.RunContext.settle_all.Goals as goal

pub loop-place-preserved : goal.loop-place-preserved
loop-place-preserved g c =
    let put = c.finish.ensures.all c.in-GoesOn.is in
    record {
      room = search rules;
      tickets = search rules;
      logs = search rules;
      goes = goes_then 0 0 _ _ _ c.loop-place.invariant.goes c.finish.ensures.goes;
      kept = c.finish.ensures.kept c.in-GoesOn.is ∙ c.loop-place.invariant.kept;
      puts = puts_then c.args.owner.now c.loop-place.owner c.finish.new.owner c.loop-place.invariant.puts c.finish.ensures.puts;
      all = put_answer c.loop-place.owner.put c.finish.new.owner.put c.loop-place.batch.replies.items c.pop_front.new.self.items _ c.in-Some.reply
          c.in-Some.ensures.items put c.loop-place.invariant.all;
      few = search rules;
      settled = search rules;
    }

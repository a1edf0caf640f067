-- One event more.
use Rattle.std.proofs.Common.{ℕ, ◌+◌, ap, arith}
use Rattle.settling.proofs.Listed.{times_more}
use Rattle.settling.proofs.member.times.Goals as goal

pub loop-at-preserved : goal.loop-at-preserved
loop-at-preserved c =
    record {
      count = times_more c.args.evaluations.now.items c.loop-at.at c.args.process c.loop-at.times (c.loop-at.times + c.one_if-times.result) c.index-evaluation.result.now (omega arith) c.loop-at.invariant.count c.index-evaluation.ensures (ap (λ (k : ℕ). c.loop-at.times + k) c.one_if-times.ensures.times);
      few = omega (arith, c.one_if-times.ensures.few, c.loop-at.invariant.few);
    }

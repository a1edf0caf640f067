-- One more that isn't of the pair.
use Rattle.causes.specs.Causes.{IsNewCause}
use Rattle.races.proofs.Kept.{below_more_read}
use Rattle.causes.proofs.causes.is_among.Goals as goal

pub loop-cause-preserved : goal.loop-cause-preserved
loop-cause-preserved c =
    below_more_read (IsNewCause c.args.pair) c.args.causes.now c.loop-cause.cause-index c.cause-item.result c.loop-cause-test.true c.cause-item.is c.loop-cause.invariant
    (c.is_of.ensures c.if-is_of.false)

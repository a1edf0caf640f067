-- A kept run that stands for this one, or none.
use Rattle.std.proofs.Common.{sym}
use Rattle.runs.specs.declared.run.RunRecord.{RunRecord}
use Rattle.runs.specs.Compared.{AreDifferentRuns}
use Rattle.seeded.specs.Samples.{GivesWay}
use Rattle.seeded.proofs.Keeping.{below_more_read}
use Rattle.seeded.proofs.samples.is_told.Goals as goal
use Rattle.std.proofs.Common.{◌⊎◌}

pub returns-then-stands_for-clause-like : goal.returns-then-stands_for-clause-like
returns-then-stands_for-clause-like c = λ yes whole.
    (c.loop-one.one-index, c.one-item.result, c.loop-one-test.true, sym c.one-item.is, c.stands_for.ensures.like c.if-stands_for.true whole)

pub loop-one-preserved : goal.loop-one-preserved
loop-one-preserved c =
    below_more_read (λ (one : RunRecord). AreDifferentRuns one c.args.run.now ⊎ GivesWay one c.args.run.now) c.args.kept.now c.loop-one.one-index c.one-item.result c.loop-one-test.true
    c.one-item.is c.loop-one.invariant (c.stands_for.ensures.other c.if-stands_for.false)

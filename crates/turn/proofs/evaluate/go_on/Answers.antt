use Rattle.std.proofs.Common.{rules, ◌∙◌}
use Rattle.turn.proofs.Runs.{ran_more}
use Rattle.turn.proofs.evaluate.go_on.Goals as goal

pub loop-op-preserved : goal.loop-op-preserved
loop-op-preserved g c = record {
  ran = λ all. ran_more c.args.ops.now c.loop-op.op-index c.op-item.result _ _ _ _ _ _ _ _ _ c.loop-op-test.true c.op-item.is all (c.loop-op.invariant.ran all) c.in_ok-step.ensures.acts;
  gave = λ h. c.in_ok-step.ensures.reads.gave (c.loop-op.invariant.gave h);
  keeps = λ r s h. c.in_ok-step.ensures.reads.keeps r s (c.loop-op.invariant.keeps r s h);
  lasting = c.in_ok-step.ensures.reads.lasting ∙ c.loop-op.invariant.lasting;
}

pub returns-in_err-step-clause-reads : goal.returns-in_err-step-clause-reads
returns-in_err-step-clause-reads g c =
    record {
      gave = search rules;
      keeps = λ r s h. c.in_err-step.ensures.reads.keeps r s (c.loop-op.invariant.keeps r s h);
      lasting = c.in_err-step.ensures.reads.lasting ∙ c.loop-op.invariant.lasting;
    }

pub returns-clause-reads : goal.returns-clause-reads
returns-clause-reads g c = record { gave = c.loop-op.invariant.gave; keeps = c.loop-op.invariant.keeps; lasting = c.loop-op.invariant.lasting }

use Rattle.std.proofs.Common.{subst, sym}
use Rattle.runs.specs.RunRecords.{IsRun}
use Rattle.program.proofs.Knowing.{grown_through}
use Rattle.program.proofs.known.KnownTexts.add_runs.Goals as goal

pub loop-run-preserved : goal.loop-run-preserved
loop-run-preserved c = record {
  few = c.in_ok-add_run.ensures.few;
  grows = grown_through c.args.self.now c.loop-run.self c.add_run.new.self c.loop-run.invariant.grows c.in_ok-add_run.ensures.grows;
  lawful = λ code limits all known.
      c.in_ok-add_run.ensures.lawful code limits (subst (IsRun code limits) (sym c.run-item.is) (all c.loop-run.run-index c.run-item.result c.loop-run-test.true)) (c.loop-run.invariant.lawful code limits all known);
}

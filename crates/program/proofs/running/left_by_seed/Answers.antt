-- The run by a seed, and that it has ended.
use Rattle.std.proofs.Common.{refl}
use Rattle.design.specs.Compiled.{design_of}
use Rattle.program.specs.Printed.{run_limits_of}
use Rattle.program.proofs.Endings.{ended}
use Rattle.program.proofs.running.left_by_seed.Goals as goal

pub returns-clause-left : goal.returns-clause-left
returns-clause-left g c = λ from file described. record {
  run = c.run_seeded-run.result;
  is_run = record { design = c.args.design.now; is_design = described; is_run = c.run_seeded-run.ensures.run; follows = c.run_seeded-run.ensures.follows };
  journal = refl;
  lines = refl;
  end = refl;
}

pub returns-clause-ended : goal.returns-clause-ended
returns-clause-ended g c =
    let run = c.run_seeded-run.result in
    ended (design_of c.args.design.now) (run_limits_of c.args.request.now.options) run.journal.items run.end c.run_seeded-run.ensures.run.ends

-- The run on workers, and that it has ended.
use Rattle.std.proofs.Common.{rules, subst, sym}
use Rattle.design.specs.Compiled.{design_of}
use Rattle.model.specs.declared.end.End.{End}
use Rattle.program.specs.Printed.{run_limits_of}
use Rattle.program.specs.Program.{IsEnded}
use Rattle.program.proofs.Endings.{ended}
use Rattle.program.proofs.running.left_on_workers.Goals as goal

pub returns-in-Ok-clause-left : goal.returns-in-Ok-clause-left
returns-in-Ok-clause-left g c = λ from file described. record {
  closed = c.in-Ok.outcome.closed;
  is_run = search rules;
  journal = c.into_parts-journal.ensures.entries;
  lines = c.into_parts-journal.ensures.lines;
  end = c.into_parts-journal.ensures.end;
}

pub returns-in-Ok-clause-ended : goal.returns-in-Ok-clause-ended
returns-in-Ok-clause-ended g c =
    let closed = c.in-Ok.outcome.closed in
    subst (λ (end : End). IsEnded end) (sym c.into_parts-journal.ensures.end)
    (ended (design_of c.args.design.now) (run_limits_of c.args.options) closed.entries closed.end c.in-Ok.ensures.ends)

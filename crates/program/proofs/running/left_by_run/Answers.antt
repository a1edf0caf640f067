-- By a seed where one is given.
use Rattle.std.proofs.Common.{ℕ, Option, IfOk, subst, sym}
use Rattle.program.specs.Printed.{IsLeftByRun}
use Rattle.program.proofs.running.left_by_run.Goals as goal

pub returns-in-Some-clause-left : goal.returns-in-Some-clause-left
returns-in-Some-clause-left g c = λ from file described. subst (λ (seed : Option ℕ). IsLeftByRun from file seed c.args.request.now.options c.left_by_seed.result) (sym c.in-Some.is) (c.left_by_seed.ensures.left from file described)

pub returns-in-None-clause-left : goal.returns-in-None-clause-left
returns-in-None-clause-left g c = λ from file described. subst (λ (seed : Option ℕ). IfOk c.left_on_workers.result (IsLeftByRun from file seed c.args.request.now.options)) (sym c.in-None.is) (c.left_on_workers.ensures.left from file described)

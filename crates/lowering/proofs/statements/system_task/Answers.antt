use Rattle.std.proofs.Common.{map, sym, ◌∙◌}
use Rattle.model.specs.SourceTrees.{source_statement_of}
use Rattle.design_scopes.specs.Places.{means}
use Rattle.statement_parts.specs.Statements.{plain_argument}
use Rattle.statement_parts.specs.Places.{surroundings}
use Rattle.lowering.specs.Shown.{shown_in}
use Rattle.lowering.proofs.Parts.{empty_is, finish_is}
use Rattle.lowering.proofs.Steps.{dumped, finished, printed}
use Rattle.lowering.proofs.statements.system_task.Goals as goal

pub returns-then-ends_run : goal.returns-then-ends_run
returns-then-ends_run c =
    finished (surroundings c.args.around.design.now) c.args.around.scope c.args.token c.args.name.now (map plain_argument c.args.arguments.now) _ (c.ends_run.ensures.0 c.if-ends_run.true) finish_is

pub returns-then-is_dump_task : goal.returns-then-is_dump_task
returns-then-is_dump_task c =
    dumped (surroundings c.args.around.design.now) c.args.around.scope c.args.token c.args.name.now (map plain_argument c.args.arguments.now) _ (sym c.is_dump_task.ensures ∙ c.if-is_dump_task.true) empty_is

pub returns : goal.returns
returns c =
    printed (surroundings c.args.around.design.now) (means c.place.result) c.path.result.now c.args.around.scope c.args.token c.args.name.now c.in-Some.task (map plain_argument c.args.arguments.now) (shown_in c.in_ok-shown.shown) (source_statement_of c.print_of.result)
    c.place.ensures c.path.ensures (sym c.in-Some.ensures) c.in_ok-shown.ensures c.print_of.ensures

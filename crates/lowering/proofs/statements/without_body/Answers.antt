use Rattle.std.proofs.Common.{[], map, sym, ap, ◌∙◌}
use Rattle.syntax_tree.specs.Expressions.{plain_expression_of}
use Rattle.statement_parts.specs.Statements as plain
use Rattle.statement_parts.specs.Statements.{plain_of, timing_of, plain_argument}
use Rattle.statement_parts.specs.Places.{surroundings}
use Rattle.lowering.proofs.Parts.{alone_ok, empty_lowered}
use Rattle.lowering.proofs.Views.{viewed_empty, viewed_assignment, viewed_trigger, viewed_task_call}
use Rattle.lowering.proofs.statements.without_body.Goals as goal

pub returns-in-Empty : goal.returns-in-Empty
returns-in-Empty c = empty_lowered (surroundings c.args.around.design.now) c.args.around.scope c.in-Empty.token (plain_of c.args.s.now) (viewed_empty c.args.s.now c.in-Empty.token c.in-Empty.is)

pub returns-in-Assignment : goal.returns-in-Assignment
returns-in-Assignment c =
    let a = c.in-Assignment in
    alone_ok (surroundings c.args.around.design.now) c.args.around.scope (plain_of c.args.s.now) (plain.Assignment a.token a.form (plain_expression_of a.target) (timing_of a.timing) (plain_expression_of a.value)) c.assignment.result
    (viewed_assignment c.args.s.now a.token a.form a.target a.timing a.value a.is) c.assignment.ensures

pub returns-in-Trigger : goal.returns-in-Trigger
returns-in-Trigger c =
    let a = c.in-Trigger in
    alone_ok (surroundings c.args.around.design.now) c.args.around.scope (plain_of c.args.s.now) (plain.Trigger a.token (plain_expression_of a.event)) c.triggered.result (viewed_trigger c.args.s.now a.token a.event a.is) c.triggered.ensures

pub returns-in-SystemTaskCall : goal.returns-in-SystemTaskCall
returns-in-SystemTaskCall c =
    let a = c.in-SystemTaskCall in
    let text = c.as_slice-text in
    let given = c.as_slice-given in
    alone_ok (surroundings c.args.around.design.now) c.args.around.scope (plain_of c.args.s.now) (plain.SystemTaskCall a.token text.result.now (map plain_argument given.result.now)) c.system_task.result
    (viewed_task_call c.args.s.now a.token a.name a.arguments a.is ∙ ap (λ xs. plain.SystemTaskCall a.token xs (map plain_argument a.arguments.items)) (sym text.ensures.value)
    ∙ ap (λ xs. plain.SystemTaskCall a.token text.result.now (map plain_argument xs)) (sym given.ensures.value)) c.system_task.ensures

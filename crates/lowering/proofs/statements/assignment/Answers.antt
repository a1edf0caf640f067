use Rattle.std.proofs.Common.{[], sym, subst, ◌∙◌}
use Rattle.std.specs.Prelude.{string_bytes}
use Rattle.model.specs.SourceTrees.{source_expression_of, source_statement_of}
use Rattle.syntax_tree.specs.Expressions.{plain_expression_of}
use Rattle.syntax_tree.specs.declared.statements.AssignmentForm.{AssignmentForm}
use Rattle.design_scopes.specs.Places.{means}
use Rattle.statement_parts.specs.Statements as plain
use Rattle.statement_parts.specs.Statements.{timing_of}
use Rattle.statement_parts.specs.Places.{surroundings}
use Rattle.lowering.specs.Lowering.{Lowers}
use Rattle.lowering.proofs.Steps.{assigned, assigned_later, timed}
use Rattle.lowering.proofs.statements.assignment.Goals as goal

pub returns-in-Blocking : goal.returns-in-Blocking
returns-in-Blocking c =
    let d = surroundings c.args.around.design.now in
    let e = plain_expression_of c.args.target.now in
    let v = plain_expression_of c.args.value.now in
    let after = timing_of c.args.timing.now in
    let s = source_statement_of c.assign_of.result in
    subst (λ (f : AssignmentForm). Lowers d c.args.around.scope (plain.Assignment c.args.token f e after v) s []) (sym c.in-Blocking.is)
    (assigned d (means c.place-place.result) c.args.around.scope c.args.token c.in_ok-target.target.width e v after (string_bytes c.in_ok-target.target.name) c.in_ok-delay.delay (source_expression_of c.in_ok-value.value) s c.place-place.ensures c.in_ok-target.ensures
    c.in_ok-delay.ensures c.in_ok-value.ensures c.assign_of.ensures)

pub returns-in-Nonblocking : goal.returns-in-Nonblocking
returns-in-Nonblocking c =
    let d = surroundings c.args.around.design.now in
    let e = plain_expression_of c.args.target.now in
    let v = plain_expression_of c.args.value.now in
    let after = timing_of c.args.timing.now in
    let s = source_statement_of c.assign_later_of.result in
    subst (λ (f : AssignmentForm). Lowers d c.args.around.scope (plain.Assignment c.args.token f e after v) s []) (sym c.in-Nonblocking.is)
    (assigned_later d (means c.place-place.result) c.args.around.scope c.args.token c.in_ok-target.target.width e v after (string_bytes c.in_ok-target.target.name) c.in_ok-delay.delay (source_expression_of c.in_ok-value.value) s c.place-place.ensures
    c.in_ok-target.ensures c.in_ok-delay.ensures c.in_ok-value.ensures c.assign_later_of.ensures)

pub returns-then-gives_time : goal.returns-then-gives_time
returns-then-gives_time c =
    timed (surroundings c.args.around.design.now) (means c.place-place.result) c.args.around.scope c.args.token c.in_ok-target.target.width (plain_expression_of c.args.target.now) (plain_expression_of c.args.value.now) (string_bytes c.in_ok-target.target.name)
    (source_statement_of c.now_of.result) c.args.form c.in_ok-delay.delay (timing_of c.args.timing.now) c.place-place.ensures c.in_ok-target.ensures c.in_ok-delay.ensures (sym c.gives_time.ensures ∙ c.if-gives_time.true) c.now_of.ensures

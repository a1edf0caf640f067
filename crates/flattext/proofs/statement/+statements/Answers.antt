use Rattle.std.proofs.Common.{true, false, ◌++◌, codes, map, ap, sym, refl}
use Rattle.model.specs.SourceTrees.{source_expression_of, source_statement_of, source_statements, source_trigger_of}
use Rattle.flattext.specs.Phrases.{deeper, indent}
use Rattle.flattext.specs.Statements.{block_text, condition_text, control_text, delay_text, statement_text, statements_text}
use Rattle.flattext.proofs.Each.{each_two_more, each_put}
use Rattle.flattext.proofs.Pieces.{two_put, three_put, put_inside, last_inside}
use Rattle.flattext.proofs.StatementViews.{viewed_delay, viewed_await, viewed_if, viewed_if_else, viewed_while}
use Rattle.flattext.proofs.statement.+statements.Goals as goal

pub push_statement-returns-in_ok-push_delay-in-Delay : goal.push_statement-returns-in_ok-push_delay-in-Delay
push_statement-returns-in_ok-push_delay-in-Delay t c =
    let depth = c.args.depth in
    two_put c.push_statement.result c.args.text.now.items c.push_delay.new.text.items c.push_statement.new.text.items
    (delay_text c.in-Delay.delay) (statement_text depth true (source_statement_of c.in-Delay.body.value)) (statement_text depth c.args.is_controlled (source_statement_of c.args.statement.now))
    (ap (statement_text depth c.args.is_controlled) (viewed_delay c.args.statement.now c.in-Delay.delay c.in-Delay.body c.in-Delay.is))
    c.in_ok-push_delay-in-Delay.ensures
    (last_inside c.push_statement.result (λ s. statement_text depth true (source_statement_of s)) c.push_statement.new.text.items c.push_delay.new.text.items c.deref.result.now c.in-Delay.body.value c.push_statement.ensures c.deref.ensures)

pub push_statement-returns-in_ok-push_control-in-Await : goal.push_statement-returns-in_ok-push_control-in-Await
push_statement-returns-in_ok-push_control-in-Await t c =
    let depth = c.args.depth in
    two_put c.push_statement-in-Await.result c.args.text.now.items c.push_control.new.text.items c.push_statement-in-Await.new.text.items
    (control_text (map source_trigger_of c.in-Await.events.items)) (statement_text depth true (source_statement_of c.in-Await.body.value)) (statement_text depth c.args.is_controlled (source_statement_of c.args.statement.now))
    (ap (statement_text depth c.args.is_controlled) (viewed_await c.args.statement.now c.in-Await.events c.in-Await.body c.in-Await.is))
    (put_inside (λ es. control_text (map source_trigger_of es)) c.push_control.new.text.items c.args.text.now.items c.as_slice-in-Await.result.now c.in-Await.events.items c.in_ok-push_control-in-Await.ensures c.as_slice-in-Await.ensures.value)
    (last_inside c.push_statement-in-Await.result (λ s. statement_text depth true (source_statement_of s)) c.push_statement-in-Await.new.text.items c.push_control.new.text.items c.deref-in-Await.result.now c.in-Await.body.value
    c.push_statement-in-Await.ensures c.deref-in-Await.ensures)

pub push_statement-returns-in_ok-push_condition-in-If : goal.push_statement-returns-in_ok-push_condition-in-If
push_statement-returns-in_ok-push_condition-in-If t c =
    let depth = c.args.depth in
    two_put c.push_block-in-If.result c.args.text.now.items c.push_condition.new.text.items c.push_block-in-If.new.text.items
    (condition_text (codes "if (") (source_expression_of c.in-If.condition)) (block_text depth (statements_text (deeper depth) (source_statements (map source_statement_of c.in-If.body.items))) (codes "\n"))
    (statement_text depth c.args.is_controlled (source_statement_of c.args.statement.now)) (ap (statement_text depth c.args.is_controlled) (viewed_if c.args.statement.now c.in-If.condition c.in-If.body c.in-If.is))
    c.in_ok-push_condition-in-If.ensures
    (last_inside c.push_block-in-If.result (λ ss. block_text depth (statements_text (deeper depth) (source_statements (map source_statement_of ss))) (codes "\n")) c.push_block-in-If.new.text.items c.push_condition.new.text.items
    c.as_slice-in-If.result.now c.in-If.body.items c.push_block-in-If.ensures c.as_slice-in-If.ensures.value)

pub push_statement-returns-in_ok-push_block-in-IfElse : goal.push_statement-returns-in_ok-push_block-in-IfElse
push_statement-returns-in_ok-push_block-in-IfElse t c =
    let depth = c.args.depth in
    three_put c.push_block-in-IfElse-2.result c.args.text.now.items c.push_condition-in-IfElse.new.text.items c.push_block-in-IfElse.new.text.items c.push_block-in-IfElse-2.new.text.items
    (condition_text (codes "if (") (source_expression_of c.in-IfElse.condition)) (block_text depth (statements_text (deeper depth) (source_statements (map source_statement_of c.in-IfElse.body.items))) (codes " else "))
    (block_text depth (statements_text (deeper depth) (source_statements (map source_statement_of c.in-IfElse.otherwise.items))) (codes "\n")) (statement_text depth c.args.is_controlled (source_statement_of c.args.statement.now))
    (ap (statement_text depth c.args.is_controlled) (viewed_if_else c.args.statement.now c.in-IfElse.condition c.in-IfElse.body c.in-IfElse.otherwise c.in-IfElse.is))
    c.in_ok-push_condition-in-IfElse.ensures
    (put_inside (λ ss. block_text depth (statements_text (deeper depth) (source_statements (map source_statement_of ss))) (codes " else ")) c.push_block-in-IfElse.new.text.items c.push_condition-in-IfElse.new.text.items
    c.as_slice-in-IfElse.result.now c.in-IfElse.body.items c.in_ok-push_block-in-IfElse.ensures c.as_slice-in-IfElse.ensures.value)
    (last_inside c.push_block-in-IfElse-2.result (λ ss. block_text depth (statements_text (deeper depth) (source_statements (map source_statement_of ss))) (codes "\n")) c.push_block-in-IfElse-2.new.text.items c.push_block-in-IfElse.new.text.items
    c.as_slice-in-IfElse-2.result.now c.in-IfElse.otherwise.items c.push_block-in-IfElse-2.ensures c.as_slice-in-IfElse-2.ensures.value)

pub push_statement-returns-in_ok-push_condition-in-While : goal.push_statement-returns-in_ok-push_condition-in-While
push_statement-returns-in_ok-push_condition-in-While t c =
    let depth = c.args.depth in
    two_put c.push_block-in-While.result c.args.text.now.items c.push_condition-in-While.new.text.items c.push_block-in-While.new.text.items
    (condition_text (codes "while (") (source_expression_of c.in-While.condition)) (block_text depth (statements_text (deeper depth) (source_statements (map source_statement_of c.in-While.body.items))) (codes "\n"))
    (statement_text depth c.args.is_controlled (source_statement_of c.args.statement.now)) (ap (statement_text depth c.args.is_controlled) (viewed_while c.args.statement.now c.in-While.condition c.in-While.body c.in-While.is))
    c.in_ok-push_condition-in-While.ensures
    (last_inside c.push_block-in-While.result (λ ss. block_text depth (statements_text (deeper depth) (source_statements (map source_statement_of ss))) (codes "\n")) c.push_block-in-While.new.text.items c.push_condition-in-While.new.text.items
    c.as_slice-in-While.result.now c.in-While.body.items c.push_block-in-While.ensures c.as_slice-in-While.ensures.value)

pub push_block-loop-statement-preserved : goal.push_block-loop-statement-preserved
push_block-loop-statement-preserved t c =
    let inside = c.deeper-inside.result in
    let all = c.args.body.now in
    each_two_more (λ rest. statements_text inside (source_statements (map source_statement_of rest))) (indent inside) (statement_text inside false (source_statement_of c.statement-item.result)) c.push_statement.new.text.items
    c.push_indent.new.text.items c.loop-statement.text.items (c.extend_from_slice.new.self.items ++ statements_text inside (source_statements (map source_statement_of all))) all c.loop-statement.statement-index c.statement-item.result
    c.loop-statement-test.true c.statement-item.is refl c.loop-statement.invariant c.in_ok-push_indent.ensures c.in_ok-push_statement.ensures

pub push_block-returns : goal.push_block-returns
unfolding block_text
push_block-returns t c =
    let inside = c.deeper-inside.result in
    let depth = c.args.depth in
    let all = c.args.body.now in
    let lines = statements_text inside (source_statements (map source_statement_of all)) in
    three_put c.push_end.result c.args.text.now.items c.extend_from_slice.new.self.items c.loop-statement.text.items c.push_end.new.text.items (codes "begin\n") lines (indent depth ++ (codes "end" ++ c.args.behind.now))
    (block_text depth (statements_text (deeper depth) (source_statements (map source_statement_of all))) c.args.behind.now)
    (ap (λ n. block_text depth (statements_text n (source_statements (map source_statement_of all))) c.args.behind.now) (sym c.deeper-inside.ensures))
    c.in_ok-extend_from_slice.ensures.items
    (each_put (λ rest. statements_text inside (source_statements (map source_statement_of rest))) c.loop-statement.text.items (c.extend_from_slice.new.self.items ++ lines) all c.loop-statement.statement-index c.loop-statement-test.false
    refl c.loop-statement.invariant)
    c.push_end.ensures

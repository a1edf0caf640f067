use Rattle.std.proofs.Common.{◌++◌, ◌+◌, nat_lt, codes, map, ap, sym, refl, ◌∙◌}
use Rattle.model.specs.SourceTrees.{source_expression_of, source_expressions}
use Rattle.flattext.specs.Operators.{binary_level, conditional_level, primary_level, unary_level, unary_sign}
use Rattle.flattext.specs.Expressions.{opening_parenthesis, closing, operand_level, operator_front, operator_middle, operator_back, expression_text, arguments_text, extension_front, extension_back}
use Rattle.flattext.proofs.Each.{each_two_more, each_put}
use Rattle.flattext.proofs.Pieces.{three_put, four_put, five_put, seven_put, put_inside}
use Rattle.flattext.proofs.Operands.{operand_put}
use Rattle.flattext.proofs.Views.{viewed_unary, viewed_binary, viewed_conditional, viewed_extend}
use Rattle.flattext.proofs.expression.+expressions.Goals as goal

pub push_expression-returns-in_ok-push_expression-in-Unary : goal.push_expression-returns-in_ok-push_expression-in-Unary
push_expression-returns-in_ok-push_expression-in-Unary t c =
    let level = c.args.level in
    four_put c.push_closing.result c.args.text.now.items c.push_opening.new.text.items c.push_prefix.new.text.items c.push_expression-in-Unary.new.text.items c.push_closing.new.text.items
    (opening_parenthesis (nat_lt unary_level level)) (unary_sign c.in-Unary.operator) (expression_text primary_level (source_expression_of c.in-Unary.operand.value)) (closing (nat_lt unary_level level))
    (expression_text level (source_expression_of c.args.expression.now)) (ap (expression_text level) (viewed_unary c.args.expression.now c.in-Unary.operator c.in-Unary.operand c.in-Unary.is))
    c.in_ok-push_opening-in-Unary.ensures c.in_ok-push_prefix-in-Unary.ensures
    (put_inside (λ e. expression_text primary_level (source_expression_of e)) c.push_expression-in-Unary.new.text.items c.push_prefix.new.text.items c.deref-in-Unary.result.now c.in-Unary.operand.value
    c.in_ok-push_expression-in-Unary.ensures c.deref-in-Unary.ensures)
    c.push_closing.ensures

pub push_expression-returns-in_ok-push_expression-in-Binary-2 : goal.push_expression-returns-in_ok-push_expression-in-Binary-2
push_expression-returns-in_ok-push_expression-in-Binary-2 t c =
    let level = c.args.level in
    let op = c.in-Binary.operator in
    five_put c.push_back.result c.args.text.now.items c.push_front.new.text.items c.push_expression-in-Binary.new.text.items c.push_middle.new.text.items c.push_expression-in-Binary-2.new.text.items c.push_back.new.text.items
    (operator_front level op) (expression_text (operand_level op (binary_level op)) (source_expression_of c.in-Binary.left.value)) (operator_middle op)
    (expression_text (operand_level op (binary_level op + 1)) (source_expression_of c.in-Binary.right.value)) (operator_back level op) (expression_text level (source_expression_of c.args.expression.now))
    (ap (expression_text level) (viewed_binary c.args.expression.now op c.in-Binary.left c.in-Binary.right c.in-Binary.is))
    c.in_ok-push_front-in-Binary.ensures
    (operand_put c.push_expression-in-Binary.new.text.items c.push_front.new.text.items c.operand_level.result (operand_level op (binary_level op)) c.deref-in-Binary.result.now c.in-Binary.left.value
    c.in_ok-push_expression-in-Binary.ensures (c.operand_level.ensures ∙ ap (operand_level op) c.binary_level-own.ensures.level) c.deref-in-Binary.ensures)
    c.in_ok-push_middle-in-Binary.ensures
    (operand_put c.push_expression-in-Binary-2.new.text.items c.push_middle.new.text.items c.operand_level-in-Binary.result (operand_level op (binary_level op + 1)) c.deref-in-Binary-2.result.now c.in-Binary.right.value
    c.in_ok-push_expression-in-Binary-2.ensures (c.operand_level-in-Binary.ensures ∙ ap (λ n. operand_level op (n + 1)) c.binary_level-own.ensures.level) c.deref-in-Binary-2.ensures)
    c.push_back.ensures

pub push_expression-returns-in_ok-push_expression-in-Conditional-3 : goal.push_expression-returns-in_ok-push_expression-in-Conditional-3
push_expression-returns-in_ok-push_expression-in-Conditional-3 t c =
    let level = c.args.level in
    seven_put c.push_closing-in-Conditional.result c.args.text.now.items c.push_opening-in-Conditional.new.text.items c.push_expression-in-Conditional.new.text.items c.extend_from_slice-in-Conditional.new.self.items
    c.push_expression-in-Conditional-2.new.text.items c.extend_from_slice-in-Conditional-2.new.self.items c.push_expression-in-Conditional-3.new.text.items c.push_closing-in-Conditional.new.text.items
    (opening_parenthesis (nat_lt conditional_level level)) (expression_text (conditional_level + 1) (source_expression_of c.in-Conditional.condition.value)) (codes " ? ")
    (expression_text (conditional_level + 1) (source_expression_of c.in-Conditional.first.value)) (codes " : ") (expression_text conditional_level (source_expression_of c.in-Conditional.second.value))
    (closing (nat_lt conditional_level level)) (expression_text level (source_expression_of c.args.expression.now))
    (ap (expression_text level) (viewed_conditional c.args.expression.now c.in-Conditional.condition c.in-Conditional.first c.in-Conditional.second c.in-Conditional.is))
    c.in_ok-push_opening-in-Conditional.ensures
    (put_inside (λ e. expression_text (conditional_level + 1) (source_expression_of e)) c.push_expression-in-Conditional.new.text.items c.push_opening-in-Conditional.new.text.items c.deref-in-Conditional.result.now c.in-Conditional.condition.value
    c.in_ok-push_expression-in-Conditional.ensures c.deref-in-Conditional.ensures)
    c.in_ok-extend_from_slice-in-Conditional.ensures.items
    (put_inside (λ e. expression_text (conditional_level + 1) (source_expression_of e)) c.push_expression-in-Conditional-2.new.text.items c.extend_from_slice-in-Conditional.new.self.items c.deref-in-Conditional-2.result.now c.in-Conditional.first.value
    c.in_ok-push_expression-in-Conditional-2.ensures c.deref-in-Conditional-2.ensures)
    c.in_ok-extend_from_slice-in-Conditional-2.ensures.items
    (put_inside (λ e. expression_text conditional_level (source_expression_of e)) c.push_expression-in-Conditional-3.new.text.items c.extend_from_slice-in-Conditional-2.new.self.items c.deref-in-Conditional-3.result.now c.in-Conditional.second.value
    c.in_ok-push_expression-in-Conditional-3.ensures c.deref-in-Conditional-3.ensures)
    c.push_closing-in-Conditional.ensures

pub push_expression-returns-in_ok-push_expression-in-Extend : goal.push_expression-returns-in_ok-push_expression-in-Extend
push_expression-returns-in_ok-push_expression-in-Extend t c =
    let level = c.args.level in
    let by = c.in-Extend.by in
    three_put c.push_extension_back.result c.args.text.now.items c.push_extension_front.new.text.items c.push_expression-in-Extend.new.text.items c.push_extension_back.new.text.items
    (extension_front by) (expression_text conditional_level (source_expression_of c.in-Extend.operand.value)) (extension_back by c.get.result) (expression_text level (source_expression_of c.args.expression.now))
    (ap (expression_text level) (viewed_extend c.args.expression.now by c.in-Extend.size c.in-Extend.operand c.in-Extend.is)
    ∙ ap (λ n. extension_front by ++ (expression_text conditional_level (source_expression_of c.in-Extend.operand.value) ++ extension_back by n)) (sym c.get.ensures.value))
    c.in_ok-push_extension_front-in-Extend.ensures
    (put_inside (λ e. expression_text conditional_level (source_expression_of e)) c.push_expression-in-Extend.new.text.items c.push_extension_front.new.text.items c.deref-in-Extend.result.now c.in-Extend.operand.value c.in_ok-push_expression-in-Extend.ensures c.deref-in-Extend.ensures)
    c.push_extension_back.ensures

pub push_arguments-loop-argument-preserved : goal.push_arguments-loop-argument-preserved
push_arguments-loop-argument-preserved t c =
    let es = c.args.arguments.now in
    each_two_more (λ rest. arguments_text (source_expressions (map source_expression_of rest))) (codes ", ") (expression_text conditional_level (source_expression_of c.argument-item.result)) c.push_expression.new.text.items
    c.extend_from_slice.new.self.items c.loop-argument.text.items (c.args.text.now.items ++ arguments_text (source_expressions (map source_expression_of es))) es c.loop-argument.argument-index c.argument-item.result
    c.loop-argument-test.true c.argument-item.is refl c.loop-argument.invariant c.in_ok-extend_from_slice.ensures.items c.in_ok-push_expression.ensures

pub push_arguments-returns : goal.push_arguments-returns
push_arguments-returns t c =
    let es = c.args.arguments.now in
    each_put (λ rest. arguments_text (source_expressions (map source_expression_of rest))) c.loop-argument.text.items (c.args.text.now.items ++ arguments_text (source_expressions (map source_expression_of es))) es
    c.loop-argument.argument-index c.loop-argument-test.false refl c.loop-argument.invariant

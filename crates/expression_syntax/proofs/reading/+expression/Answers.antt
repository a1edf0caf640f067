-- What each step of an expression gives is what the grammar spells.
use Rattle.std.proofs.Common.{sym, ◌∙◌, ap, subst, arith}
use Rattle.syntax_tree.specs.Expressions.{plain_expression_of}
use Rattle.expression_syntax.specs.Attributes.{tokens_of}
use Rattle.expression_syntax.specs.Operators.{binary_operator, unary_operator}
use Rattle.expression_syntax.specs.Places.{behind}
use Rattle.expression_syntax.specs.ExpressionGrammar as grammar
use Rattle.expression_syntax.proofs.Levels.{ready_first}
use Rattle.expression_syntax.proofs.Steps as step
use Rattle.expression_syntax.proofs.reading.+expression.Goals as goal

pub parse_part-returns : goal.parse_part-returns
parse_part-returns t c =
    λ a is d one f. step.part_is _ a _ _ _ _ _ _ _ _ _ _ _ is d one f c.take.ensures.moved (c.in_ok-second.ensures.spelled (omega arith)) c.in_ok-expect.ensures.1 c.in_ok-expect.ensures.2 c.close.ensures c.in_ok-part_of.ensures

pub parse_select-returns-in_ok-index_of-in-None : goal.parse_select-returns-in_ok-index_of-in-None
parse_select-returns-in_ok-index_of-in-None t c =
    λ a is. step.index_is _ a _ _ _ _ _ _ _ _ _ _ is c.in_ok-token.ensures.0 c.in_ok-token.ensures.1 c.in_ok-token.ensures.2 c.open.ensures (c.in_ok-first.ensures.spelled (omega arith)) c.in_ok-expect-in-None.ensures.1 c.in_ok-expect-in-None.ensures.2 c.close.ensures c.in_ok-index_of-in-None.ensures

pub parse_list-loop-part-init : goal.parse_list-loop-part-init
parse_list-loop-part-init t c = λ a h. step.list_start _ _ _ _ _ c.into_inner.ensures c.new-found.ensures.items c.in_ok-push.ensures.items a _ h

pub parse_list-returns-then-not-accept : goal.parse_list-returns-then-not-accept
parse_list-returns-then-not-accept t c =
    λ a h. step.parts_is _ _ _ a _ _ _ _ _ (c.loop-part.invariant a h) c.if-not-accept.true c.accept.ensures.moved c.in_ok-expect.ensures.1 c.in_ok-expect.ensures.2 c.close.ensures

pub parse_list-loop-part-preserved : goal.parse_list-loop-part-preserved
parse_list-loop-part-preserved t c =
    λ a h. step.list_more _ _ _ _ _ a _ _ _ _ c.into_inner-in-loop-part.ensures (c.loop-part.invariant a h) c.accept.ensures.seen c.if-not-accept.false c.accept.ensures.moved (c.in_ok-part.ensures.spelled (omega arith)) c.in_ok-push-2.ensures.items

pub parse_named-returns-then-not-sees : goal.parse_named-returns-then-not-sees
parse_named-returns-then-not-sees t c = grammar.path c.in_ok-path.ensures c.in_ok-skip_attributes.ensures

pub parse_named-returns : goal.parse_named-returns
parse_named-returns t c =
    step.call_is _ _ _ _ _ _ _ _ _ c.in_ok-path.ensures c.in_ok-skip_attributes.ensures c.place-token.ensures c.in_ok-arguments.ensures.0 c.in_ok-arguments.ensures.1 c.in_ok-call_of.ensures

pub parse_system_call-returns-then-not-sees : goal.parse_system_call-returns-then-not-sees
parse_system_call-returns-then-not-sees t c =
    step.system_bare_is _ _ _ _ _ _ _ c.requires c.take-token.ensures.token c.take-token.ensures.moved c.in_ok-name.ensures c.new.ensures.items c.in_ok-system_call_of.ensures

pub parse_system_call-returns : goal.parse_system_call-returns
parse_system_call-returns t c =
    step.system_call_is _ _ _ _ _ _ _ _ c.requires c.take-token.ensures.token c.take-token.ensures.moved c.in_ok-name.ensures c.in_ok-arguments.ensures.0 c.in_ok-arguments.ensures.1 c.in_ok-system_call_of-2.ensures

pub parse_replication-returns : goal.parse_replication-returns
parse_replication-returns t c =
    λ d one. step.replication_is _ _ _ _ _ _ _ _ _ _ _ _ _ d one c.in_ok-expect.ensures.1 c.in_ok-expect.ensures.2 c.open.ensures (c.in_ok-first.ensures.spelled (omega arith)) c.in_ok-parts.ensures c.in_ok-expect-2.ensures.1 c.in_ok-expect-2.ensures.2 c.close.ensures c.in_ok-replication_of.ensures

pub parse_braces-returns : goal.parse_braces-returns
parse_braces-returns t c =
    step.concatenation_is _ _ _ _ _ _ _ _ _ _ c.in_ok-token.ensures.0 c.in_ok-token.ensures.1 c.in_ok-token.ensures.2 c.open.ensures (c.in_ok-first.ensures.spelled (omega arith)) c.in_ok-parts.ensures c.in_ok-concatenation_of.ensures

pub parse_typical-returns : goal.parse_typical-returns
parse_typical-returns t c =
    λ a low d one. step.typical_is _ a _ _ _ _ _ _ _ low _ _ d one c.in_ok-expect.ensures.1 c.in_ok-expect.ensures.2 (c.in_ok-typical.ensures.spelled (omega arith)) c.in_ok-expect-2.ensures.1 c.in_ok-expect-2.ensures.2 (c.in_ok-parse_expression.ensures.spelled (omega arith)) c.in_ok-expect-3.ensures.1 c.in_ok-expect-3.ensures.2 c.close.ensures

pub parse_parenthesized-returns : goal.parse_parenthesized-returns
parse_parenthesized-returns t c =
    step.nested_is _ _ _ _ _ _ _ _ c.in_ok-expect.ensures.1 c.in_ok-expect.ensures.2 c.open.ensures (c.in_ok-inner.ensures.spelled (omega arith)) c.in_ok-expect-2.ensures.1 c.in_ok-expect-2.ensures.2 c.close.ensures

pub parse_primary-returns-in-Braces : goal.parse_primary-returns-in-Braces
parse_primary-returns-in-Braces t c =
    step.ok_map (λ e. grammar.IsBraces c.args.source.now (plain_expression_of e.value) c.args.reader.now.place c.parse_braces.new.reader.place) _ _ (λ e is. grammar.braces is) c.parse_braces.ensures

pub parse_operand-returns-in-None : goal.parse_operand-returns-in-None
parse_operand-returns-in-None t c =
    step.ok_map (λ e. grammar.IsPrimary c.args.source.now (plain_expression_of e.value) c.args.reader.now.place c.parse_primary.new.reader.place) _ _ (λ e is. grammar.bare is) c.parse_primary.ensures

pub parse_operand-returns-in_ok-unary_of-in-Some : goal.parse_operand-returns-in_ok-unary_of-in-Some
parse_operand-returns-in_ok-unary_of-in-Some t c =
    step.unary_is _ _ _ _ _ _ _ _ _ (ap (λ k. unary_operator k) (sym c.kind.ensures) ∙ sym c.unary_operator.ensures ∙ c.in-Some.is)
    (c.take-token.ensures.token ∙ c.count_operator.ensures) (c.take-token.ensures.moved ∙ ap (λ n. behind (tokens_of c.args.source.now) n) c.count_operator.ensures)
    c.in_ok-skip_attributes-in-Some.ensures c.in_ok-inner-in-Some.ensures c.in_ok-unary_of-in-Some.ensures

pub parse_operators-loop-turn-init : goal.parse_operators-loop-turn-init
parse_operators-loop-turn-init t c = λ a is h. ready_first _ _ _ a _ is h

pub parse_operators-returns-in-None-clause-stops : goal.parse_operators-returns-in-None-clause-stops
parse_operators-returns-in-None-clause-stops t c =
    step.none_stops _ _ _ (c.binary_operator.ensures.value ∙ ap (λ k. binary_operator k) c.kind.ensures) c.in-None.is

pub parse_operators-loop-turn-preserved : goal.parse_operators-loop-turn-preserved
parse_operators-loop-turn-preserved t c =
    λ a is h. step.operator_is _ _ _ _ _ a _ _ _ _ _ _ c.in-Some.found (c.loop-turn.invariant a is h)
    (ap (λ k. binary_operator k) (sym c.kind.ensures) ∙ sym c.binary_operator.ensures.value ∙ c.in-Some.is) (omega arith) c.in-Some.ensures.within
    (c.take-token.ensures.token ∙ c.count_operator.ensures) (c.take-token.ensures.moved ∙ ap (λ n. behind (tokens_of c.args.source.now) n) c.count_operator.ensures)
    c.in_ok-skip_attributes.ensures (omega arith) (c.in_ok-right.ensures.spelled (omega (arith, c.in-Some.ensures.within))) (c.in_ok-right.ensures.stops (omega arith)) c.in_ok-left.ensures

pub parse_conditional-returns : goal.parse_conditional-returns
parse_conditional-returns t c =
    λ a is. step.conditional_is _ a _ _ _ _ _ _ _ _ _ _ _ (subst (λ x. grammar.IsBinary c.args.source.now 1 (plain_expression_of c.args.condition.value) a x) (sym c.count_operator.ensures) is) c.in_ok-token.ensures.0 c.in_ok-token.ensures.1 c.in_ok-token.ensures.2 c.in_ok-skip_attributes.ensures (c.in_ok-first.ensures.spelled (omega arith)) c.in_ok-expect.ensures.1 c.in_ok-expect.ensures.2 (c.in_ok-second.ensures.spelled (omega arith)) c.in_ok-conditional_of.ensures

pub parse_expression-returns-clause-spelled : goal.parse_expression-returns-clause-spelled
parse_expression-returns-clause-spelled t c =
    λ h. step.level_is _ _ _ _ _ _ c.first_level.ensures.low c.first_level.ensures.same (c.in_ok-left.ensures.spelled _ c.in_ok-first.ensures (c.first_level.ensures.within h))

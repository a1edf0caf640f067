-- One turn of the loop is one step of the recursion that the loop stands for; a choice comes at level 0 alone.
use Rattle.std.proofs.Common.{◌≡◌, ℕ, ◌∙◌, Some, true, sym, rules, arith}
use Rattle.std.proofs.lemmas.Grind.{common_steps}
use Rattle.grammar.specs.Cursor.{left_of, sees}
use Rattle.tokens.specs.Tokens.{PlainTokens}
use Rattle.tokens.specs.declared.token.Kind.TheVariants.{Question}
use Rattle.model.specs.Syntax.{Text, Expression}
use Rattle.model.specs.SourceTrees.{source_expression_of}
use Rattle.grammar.specs.Nodes.{expressions_view}
use Rattle.grammar.specs.Reading as spec
use Rattle.grammar.specs.Reading.{parse_operators, parse_level, parse_list}
use Rattle.grammar.proofs.Turns.{one_more, deeper}
use Rattle.grammar.proofs.expression.+expression.Goals as goal

pub parse_operators-loop-turn-preserved : goal.parse_operators-loop-turn-preserved
unfolding parse_operators
parse_operators-loop-turn-preserved t c =
    let e = one_more (λ n. parse_operators (spec.parse_expression c.args.budget) n c.args.level (source_expression_of c.loop-turn.left) (left_of c.loop-turn.tokens)) c.args.budget c.loop-turn._turn c.loop-turn-test.true c.loop-turn.invariant in
    grind (arith, common_steps)

conditional_at_0 : (inner : ℕ → spec.Parser (Expression Text)) (budget level : ℕ) (first left : Expression Text) (ts us vs : PlainTokens)
    → spec.parse_operand inner budget ts ≡ Some (first, us) → parse_operators inner budget level first us ≡ Some (left, vs) → level ≡ 0 → sees Question vs ≡ true
    → parse_level inner budget level ts ≡ spec.parse_conditional inner left vs
unfolding parse_level
conditional_at_0 inner budget level first left ts us vs o l z q = rw (o, l, z, q)

pub parse_expression-returns-then-sees : goal.parse_expression-returns-then-sees
parse_expression-returns-then-sees t c =
    rw (deeper (λ n. spec.parse_expression n c.args.level (left_of c.args.tokens.now)) c.args.budget (omega arith)
    ∙ conditional_at_0 _ _ _ _ _ _ _ _ c.in_ok-first.ensures c.in_ok-left.ensures c.if-level-eq0.true (sym c.sees.ensures ∙ c.if-sees.true))
    c.parse_conditional.ensures

pub parse_list-returns-then-not-sees : goal.parse_list-returns-then-not-sees
unfolding parse_list
parse_list-returns-then-not-sees t c =
    let e = one_more (λ n. parse_list (spec.parse_expression c.args.budget) c.args.bracket n (expressions_view c.loop-turn.found) (left_of c.loop-turn.tokens)) c.args.budget c.loop-turn._turn c.loop-turn-test.true c.loop-turn.invariant in
    grind (arith, common_steps)

pub parse_list-loop-turn-preserved : goal.parse_list-loop-turn-preserved
unfolding parse_list
parse_list-loop-turn-preserved t c =
    let e = one_more (λ n. parse_list (spec.parse_expression c.args.budget) c.args.bracket n (expressions_view c.loop-turn.found) (left_of c.loop-turn.tokens)) c.args.budget c.loop-turn._turn c.loop-turn-test.true c.loop-turn.invariant in
    grind (arith, common_steps)

pub parse_list-returns-in_err-part : goal.parse_list-returns-in_err-part
unfolding parse_list
parse_list-returns-in_err-part t c =
    let e = one_more (λ n. parse_list (spec.parse_expression c.args.budget) c.args.bracket n (expressions_view c.loop-turn.found) (left_of c.loop-turn.tokens)) c.args.budget c.loop-turn._turn c.loop-turn-test.true c.loop-turn.invariant in
    grind (arith, common_steps)

pub parse_list-returns-in_err-expect : goal.parse_list-returns-in_err-expect
unfolding parse_list
parse_list-returns-in_err-expect t c =
    let e = one_more (λ n. parse_list (spec.parse_expression c.args.budget) c.args.bracket n (expressions_view c.loop-turn.found) (left_of c.loop-turn.tokens)) c.args.budget c.loop-turn._turn c.loop-turn-test.true c.loop-turn.invariant in
    grind (arith, common_steps)

pub parse_list-returns-in_err-take : goal.parse_list-returns-in_err-take
unfolding parse_list
parse_list-returns-in_err-take t c =
    let e = one_more (λ n. parse_list (spec.parse_expression c.args.budget) c.args.bracket n (expressions_view c.loop-turn.found) (left_of c.loop-turn.tokens)) c.args.budget c.loop-turn._turn c.loop-turn-test.true c.loop-turn.invariant in
    grind (arith, common_steps)

-- Each call from an expression back to an expression has a smaller budget.
use Rattle.std.proofs.Common.{◌≡◌, ◌+◌, ◌-◌, ◌*◌}
use Rattle.grammar.specs.Cursor.{left_of}
use Rattle.model.specs.SourceTrees.{source_expression_of}
use Rattle.grammar.specs.Nodes.{expressions_view}
use Rattle.grammar.specs.Reading as spec
use Rattle.grammar.proofs.expression.+expression.Given as goal

abbrev pub decreases-parse_expression : goal.decreases-parse_expression
decreases-parse_expression l = 5 * l.budget

abbrev pub decreases-parse_operand : goal.decreases-parse_operand
decreases-parse_operand l = 5 * l.budget + 4

abbrev pub decreases-parse_primary : goal.decreases-parse_primary
decreases-parse_primary l = 5 * l.budget + 3

abbrev pub decreases-parse_concat : goal.decreases-parse_concat
decreases-parse_concat l = 5 * l.budget + 2

abbrev pub decreases-parse_list : goal.decreases-parse_list
decreases-parse_list l = 5 * l.budget + 1

abbrev pub decreases-parse_parenthesized : goal.decreases-parse_parenthesized
decreases-parse_parenthesized l = 5 * l.budget + 2

abbrev pub decreases-parse_closed : goal.decreases-parse_closed
decreases-parse_closed l = 5 * l.budget + 1

abbrev pub decreases-parse_conditional : goal.decreases-parse_conditional
decreases-parse_conditional l = 5 * l.budget + 2

abbrev pub decreases-parse_operators : goal.decreases-parse_operators
decreases-parse_operators l = 5 * l.budget + 1

-- what is read from here with the turns that are left is what is read in all
abbrev pub invariant-parse_operators-loop-turn : goal.invariant-parse_operators-loop-turn
invariant-parse_operators-loop-turn l =
    spec.parse_operators (spec.parse_expression l.budget) l.budget l.level (source_expression_of l.fn.left) (left_of l.fn.tokens)
    ≡ spec.parse_operators (spec.parse_expression l.budget) (l.budget - l._turn) l.level (source_expression_of l.left) (left_of l.tokens)

abbrev pub invariant-parse_list-loop-turn : goal.invariant-parse_list-loop-turn
invariant-parse_list-loop-turn l =
    spec.parse_list (spec.parse_expression l.budget) l.bracket l.budget (expressions_view l.fn.found) (left_of l.fn.tokens)
    ≡ spec.parse_list (spec.parse_expression l.budget) l.bracket (l.budget - l._turn) (expressions_view l.found) (left_of l.tokens)

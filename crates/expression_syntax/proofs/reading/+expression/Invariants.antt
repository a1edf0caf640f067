-- Each call from an expression back to an expression has less room.
use Rattle.std.proofs.Common.{◌+◌, ◌*◌, ◌≤◌, ℕ}
use Rattle.syntax_tree.specs.Expressions.{plain_expression_of, plain_expressions_of}
use Rattle.expression_syntax.specs.ExpressionGrammar as grammar
use Rattle.expression_syntax.proofs.Levels.{IsReady}
use Rattle.expression_syntax.proofs.reading.+expression.Given as goal

abbrev pub decreases-parse_expression : goal.decreases-parse_expression
decreases-parse_expression l = 20 * l.room

abbrev pub decreases-parse_operators : goal.decreases-parse_operators
decreases-parse_operators l = 20 * l.room + 1

abbrev pub decreases-parse_conditional : goal.decreases-parse_conditional
decreases-parse_conditional l = 20 * l.room + 1

abbrev pub decreases-parse_operand : goal.decreases-parse_operand
decreases-parse_operand l = 20 * l.room + 19

abbrev pub decreases-parse_primary : goal.decreases-parse_primary
decreases-parse_primary l = 20 * l.room + 18

abbrev pub decreases-parse_named : goal.decreases-parse_named
decreases-parse_named l = 20 * l.room + 17

abbrev pub decreases-parse_path : goal.decreases-parse_path
decreases-parse_path l = 20 * l.room + 16

abbrev pub decreases-parse_step : goal.decreases-parse_step
decreases-parse_step l = 20 * l.room + 15

abbrev pub decreases-parse_select : goal.decreases-parse_select
decreases-parse_select l = 20 * l.room + 14

abbrev pub decreases-parse_part : goal.decreases-parse_part
decreases-parse_part l = 20 * l.room + 13

abbrev pub decreases-parse_system_call : goal.decreases-parse_system_call
decreases-parse_system_call l = 20 * l.room + 17

abbrev pub decreases-parse_arguments : goal.decreases-parse_arguments
decreases-parse_arguments l = 20 * l.room + 12

abbrev pub decreases-parse_list : goal.decreases-parse_list
decreases-parse_list l = 20 * l.room + 1

abbrev pub decreases-parse_braces : goal.decreases-parse_braces
decreases-parse_braces l = 20 * l.room + 17

abbrev pub decreases-parse_replication : goal.decreases-parse_replication
decreases-parse_replication l = 20 * l.room + 16

abbrev pub decreases-parse_parenthesized : goal.decreases-parse_parenthesized
decreases-parse_parenthesized l = 20 * l.room + 17

abbrev pub decreases-parse_typical : goal.decreases-parse_typical
decreases-parse_typical l = 20 * l.room + 16

-- what is found is a path from the name on
abbrev pub invariant-parse_path-loop-step : goal.invariant-parse_path-loop-step
invariant-parse_path-loop-step l = grammar.IsPath l.source (plain_expression_of l.found.value) l.fn.reader.place l.reader.place

-- what is found stands with commas between, from where the first one began
abbrev pub invariant-parse_list-loop-part : goal.invariant-parse_list-loop-part
invariant-parse_list-loop-part l =
    (a : ℕ) → grammar.IsExpression l.source (plain_expression_of l.fn.first.value) a l.fn.reader.place → grammar.AreSeparated l.source (plain_expressions_of l.found) a l.reader.place

-- what stands left of the next operator is of its level
abbrev pub invariant-parse_operators-loop-turn : goal.invariant-parse_operators-loop-turn
invariant-parse_operators-loop-turn l =
    (a : ℕ) → grammar.IsUnary l.source (plain_expression_of l.fn.first.value) a l.fn.reader.place → l.level ≤ 12
    → IsReady l.source l.level (plain_expression_of l.left.value) a l.reader.place

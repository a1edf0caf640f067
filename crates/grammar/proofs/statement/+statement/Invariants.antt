-- Each call from a statement back to a statement has a smaller budget.
use Rattle.std.proofs.Common.{◌≡◌, ◌+◌, ◌-◌, ◌*◌, []}
use Rattle.grammar.specs.Cursor.{left_of}
use Rattle.grammar.specs.Nodes.{statements_view}
use Rattle.grammar.specs.Reading as spec
use Rattle.grammar.proofs.statement.+statement.Given as goal

abbrev pub decreases-parse_statement : goal.decreases-parse_statement
decreases-parse_statement l = 8 * l.budget

abbrev pub decreases-parse_block : goal.decreases-parse_block
decreases-parse_block l = 8 * l.budget + 1

abbrev pub decreases-parse_else : goal.decreases-parse_else
decreases-parse_else l = 8 * l.budget + 2

abbrev pub decreases-parse_guarded : goal.decreases-parse_guarded
decreases-parse_guarded l = 8 * l.budget + 2

abbrev pub decreases-parse_if : goal.decreases-parse_if
decreases-parse_if l = 8 * l.budget + 3

abbrev pub decreases-parse_while : goal.decreases-parse_while
decreases-parse_while l = 8 * l.budget + 4

abbrev pub decreases-parse_delayed : goal.decreases-parse_delayed
decreases-parse_delayed l = 8 * l.budget + 5

abbrev pub decreases-parse_awaited : goal.decreases-parse_awaited
decreases-parse_awaited l = 8 * l.budget + 6

abbrev pub decreases-parse_form : goal.decreases-parse_form
decreases-parse_form l = 8 * l.budget + 7

-- what is read from here with the turns that are left is what is read in all
abbrev pub invariant-parse_block-loop-turn : goal.invariant-parse_block-loop-turn
invariant-parse_block-loop-turn l =
    spec.parse_statements (spec.parse_statement l.budget) l.budget [] (left_of l.initial.tokens)
    ≡ spec.parse_statements (spec.parse_statement l.budget) (l.budget - l._turn) (statements_view l.found) (left_of l.tokens)

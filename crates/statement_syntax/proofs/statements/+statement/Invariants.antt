-- Each call from a statement back to a statement has less room.
use Rattle.std.proofs.Common.{◌+◌, ◌*◌}
use Rattle.statement_syntax.proofs.statements.+statement.Given as goal

abbrev pub decreases-parse_statement : goal.decreases-parse_statement
decreases-parse_statement l = 20 * l.room

abbrev pub decreases-parse_form : goal.decreases-parse_form
decreases-parse_form l = 20 * l.room + 19

abbrev pub decreases-parse_branches : goal.decreases-parse_branches
decreases-parse_branches l = 20 * l.room + 12

abbrev pub decreases-parse_case_items : goal.decreases-parse_case_items
decreases-parse_case_items l = 20 * l.room + 12

abbrev pub decreases-parse_headed : goal.decreases-parse_headed
decreases-parse_headed l = 20 * l.room + 10

abbrev pub decreases-parse_block : goal.decreases-parse_block
decreases-parse_block l = 20 * l.room + 12

abbrev pub decreases-parse_statements : goal.decreases-parse_statements
decreases-parse_statements l = 20 * l.room + 11

abbrev pub decreases-parse_if : goal.decreases-parse_if
decreases-parse_if l = 20 * l.room + 13

abbrev pub decreases-parse_branch : goal.decreases-parse_branch
decreases-parse_branch l = 20 * l.room + 11

abbrev pub decreases-parse_otherwise : goal.decreases-parse_otherwise
decreases-parse_otherwise l = 20 * l.room + 11

abbrev pub decreases-parse_case : goal.decreases-parse_case
decreases-parse_case l = 20 * l.room + 13

abbrev pub decreases-parse_case_item : goal.decreases-parse_case_item
decreases-parse_case_item l = 20 * l.room + 11

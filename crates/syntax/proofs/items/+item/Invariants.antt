-- Each call from an item back to an item has less room.
use Rattle.std.proofs.Common.{◌+◌, ◌*◌}
use Rattle.syntax.proofs.items.+item.Given as goal

abbrev pub decreases-parse_item : goal.decreases-parse_item
decreases-parse_item l = 20 * l.room

abbrev pub decreases-parse_form : goal.decreases-parse_form
decreases-parse_form l = 20 * l.room + 19

abbrev pub decreases-parse_branches : goal.decreases-parse_branches
decreases-parse_branches l = 20 * l.room + 15

abbrev pub decreases-parse_otherwise : goal.decreases-parse_otherwise
decreases-parse_otherwise l = 20 * l.room + 15

abbrev pub decreases-parse_case_items : goal.decreases-parse_case_items
decreases-parse_case_items l = 20 * l.room + 15

abbrev pub decreases-parse_block_items : goal.decreases-parse_block_items
decreases-parse_block_items l = 20 * l.room + 11

abbrev pub decreases-parse_loop : goal.decreases-parse_loop
decreases-parse_loop l = 20 * l.room + 16

abbrev pub decreases-parse_if : goal.decreases-parse_if
decreases-parse_if l = 20 * l.room + 16

abbrev pub decreases-parse_case : goal.decreases-parse_case
decreases-parse_case l = 20 * l.room + 16

abbrev pub decreases-parse_branch : goal.decreases-parse_branch
decreases-parse_branch l = 20 * l.room + 14

abbrev pub decreases-parse_case_item : goal.decreases-parse_case_item
decreases-parse_case_item l = 20 * l.room + 14

abbrev pub decreases-parse_body : goal.decreases-parse_body
decreases-parse_body l = 20 * l.room + 13

abbrev pub decreases-parse_block : goal.decreases-parse_block
decreases-parse_block l = 20 * l.room + 12

abbrev pub decreases-parse_lone_item : goal.decreases-parse_lone_item
decreases-parse_lone_item l = 20 * l.room + 12

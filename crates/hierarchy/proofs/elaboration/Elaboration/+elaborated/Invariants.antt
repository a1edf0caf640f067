-- Each scope, and each construct in another one, has less room.
use Rattle.std.proofs.Common.{◌+◌, ◌*◌}
use Rattle.hierarchy.proofs.elaboration.Elaboration.+elaborated.Given as goal

abbrev pub decreases-elaborate_items : goal.decreases-elaborate_items
decreases-elaborate_items l = 10 * l.room + 9

abbrev pub decreases-elaborate_item : goal.decreases-elaborate_item
decreases-elaborate_item l = 10 * l.room + 8

abbrev pub decreases-elaborate_instances : goal.decreases-elaborate_instances
decreases-elaborate_instances l = 10 * l.room + 7

abbrev pub decreases-elaborate_instance : goal.decreases-elaborate_instance
decreases-elaborate_instance l = 10 * l.room + 6

abbrev pub decreases-elaborate_module : goal.decreases-elaborate_module
decreases-elaborate_module l = 10 * l.room + 5

abbrev pub decreases-elaborate_loop : goal.decreases-elaborate_loop
decreases-elaborate_loop l = 10 * l.room + 7

abbrev pub decreases-elaborate_block : goal.decreases-elaborate_block
decreases-elaborate_block l = 10 * l.room + 5

abbrev pub decreases-elaborate_if : goal.decreases-elaborate_if
decreases-elaborate_if l = 10 * l.room + 7

abbrev pub decreases-elaborate_case : goal.decreases-elaborate_case
decreases-elaborate_case l = 10 * l.room + 7

abbrev pub decreases-elaborate_chosen : goal.decreases-elaborate_chosen
decreases-elaborate_chosen l = 10 * l.room + 6

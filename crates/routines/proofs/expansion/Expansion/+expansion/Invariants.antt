-- What stands in a statement or an expression has less room, and so has the body of a call. At one place each function calls those of lower numbers.
use Rattle.std.proofs.Common.{◌+◌, ◌*◌, ◌≤◌}
use Rattle.routines.proofs.expansion.Expansion.+expansion.Given as goal

abbrev pub decreases-expression : goal.decreases-expression
decreases-expression l = 64 * l.at.room + 0

abbrev pub decreases-boxed : goal.decreases-boxed
decreases-boxed l = 64 * l.at.room + 1

abbrev pub decreases-each : goal.decreases-each
decreases-each l = 64 * l.at.room + 1

abbrev pub decreases-inputs : goal.decreases-inputs
decreases-inputs l = 64 * l.at.room + 1

abbrev pub decreases-targets : goal.decreases-targets
decreases-targets l = 64 * l.at.room + 1

abbrev pub decreases-timing : goal.decreases-timing
decreases-timing l = 64 * l.at.room + 3

abbrev pub decreases-delay : goal.decreases-delay
decreases-delay l = 64 * l.at.room + 2

abbrev pub decreases-argument : goal.decreases-argument
decreases-argument l = 64 * l.at.room + 1

abbrev pub decreases-head : goal.decreases-head
decreases-head l = 64 * l.at.room + 2

abbrev pub decreases-alternative : goal.decreases-alternative
decreases-alternative l = 64 * l.at.room + 2

abbrev pub decreases-looped : goal.decreases-looped
decreases-looped l = 64 * l.at.room + 2

abbrev pub decreases-shown : goal.decreases-shown
decreases-shown l = 64 * l.at.room + 2

abbrev pub decreases-operation : goal.decreases-operation
decreases-operation l = 64 * l.at.room + 3

abbrev pub decreases-alternatives : goal.decreases-alternatives
decreases-alternatives l = 64 * l.at.room + 3

abbrev pub decreases-system_task : goal.decreases-system_task
decreases-system_task l = 64 * l.at.room + 3

abbrev pub decreases-body_of_call : goal.decreases-body_of_call
decreases-body_of_call l = 64 * l.at.room + 5

abbrev pub decreases-items : goal.decreases-items
decreases-items l = 64 * l.at.room + 5

abbrev pub decreases-function_call : goal.decreases-function_call
decreases-function_call l = 64 * l.at.room + 6

abbrev pub decreases-task_call : goal.decreases-task_call
decreases-task_call l = 64 * l.at.room + 6

abbrev pub decreases-plain_for : goal.decreases-plain_for
decreases-plain_for l = 64 * l.at.room + 10

abbrev pub decreases-turning_for : goal.decreases-turning_for
decreases-turning_for l = 64 * l.at.room + 10

abbrev pub decreases-turning_while : goal.decreases-turning_while
decreases-turning_while l = 64 * l.at.room + 10

abbrev pub decreases-turning : goal.decreases-turning
decreases-turning l = 64 * l.at.room + 12

abbrev pub decreases-waiting : goal.decreases-waiting
decreases-waiting l = 64 * l.at.room + 12

abbrev pub decreases-simple : goal.decreases-simple
decreases-simple l = 64 * l.at.room + 12

abbrev pub decreases-selection : goal.decreases-selection
decreases-selection l = 64 * l.at.room + 12

abbrev pub decreases-choice : goal.decreases-choice
decreases-choice l = 64 * l.at.room + 12

abbrev pub decreases-block : goal.decreases-block
decreases-block l = 64 * l.at.room + 12

abbrev pub decreases-rest_of_choice : goal.decreases-rest_of_choice
decreases-rest_of_choice l = 64 * l.at.room + 13

abbrev pub decreases-statement : goal.decreases-statement
decreases-statement l = 64 * l.at.room + 14

abbrev pub decreases-whole : goal.decreases-whole
decreases-whole l = 64 * l.at.room + 15

abbrev pub decreases-boxed_statement : goal.decreases-boxed_statement
decreases-boxed_statement l = 64 * l.at.room + 16

abbrev pub decreases-body : goal.decreases-body
decreases-body l = 64 * l.spot.room + 40

abbrev pub decreases-turn_of : goal.decreases-turn_of
decreases-turn_of l = 64 * l.inner.room + 40

abbrev pub decreases-item : goal.decreases-item
decreases-item l = 64 * l.inner.room + 40

abbrev pub decreases-last_else : goal.decreases-last_else
decreases-last_else l = 64 * l.at.room + 40

abbrev pub decreases-all : goal.decreases-all
decreases-all l = 64 * l.at.room + 40

abbrev pub invariant-choice-loop-number : goal.invariant-choice-loop-number
invariant-choice-loop-number l = l.inner.room ≤ l.fn.at.room

abbrev pub invariant-items-loop-item : goal.invariant-items-loop-item
invariant-items-loop-item l = l.inner.room ≤ l.fn.at.room

-- What stands in an expression or a statement has less room, and so has the body of a call. At one place each function calls those of lower numbers.
use Rattle.std.proofs.Common.{◌≡◌, ◌+◌, ◌*◌}
use Rattle.constant_functions.proofs.calls.ConstantFunctions.+calls.Given as goal

abbrev pub decreases-expression : goal.decreases-expression
decreases-expression l = 10 * l.room + 0

abbrev pub decreases-run : goal.decreases-run
decreases-run l = 10 * l.room + 0

abbrev pub decreases-expressions : goal.decreases-expressions
decreases-expressions l = 10 * l.room + 1

abbrev pub decreases-value : goal.decreases-value
decreases-value l = 10 * l.room + 1

abbrev pub decreases-constant_range : goal.decreases-constant_range
decreases-constant_range l = 10 * l.room + 1

abbrev pub decreases-assign : goal.decreases-assign
decreases-assign l = 10 * l.room + 1

abbrev pub decreases-choice : goal.decreases-choice
decreases-choice l = 10 * l.room + 1

abbrev pub decreases-assign_head : goal.decreases-assign_head
decreases-assign_head l = 10 * l.room + 2

abbrev pub decreases-declare_constants : goal.decreases-declare_constants
decreases-declare_constants l = 10 * l.room + 2

abbrev pub decreases-operands : goal.decreases-operands
decreases-operands l = 10 * l.room + 2

abbrev pub decreases-opened : goal.decreases-opened
decreases-opened l = 10 * l.room + 2

abbrev pub decreases-give_arguments : goal.decreases-give_arguments
decreases-give_arguments l = 10 * l.room + 2

abbrev pub decreases-case : goal.decreases-case
decreases-case l = 10 * l.room + 2

abbrev pub decreases-branches : goal.decreases-branches
decreases-branches l = 10 * l.room + 2

abbrev pub decreases-declare_items : goal.decreases-declare_items
decreases-declare_items l = 10 * l.room + 3

abbrev pub decreases-turns : goal.decreases-turns
decreases-turns l = 10 * l.room + 3

abbrev pub decreases-repeated : goal.decreases-repeated
decreases-repeated l = 10 * l.room + 3

abbrev pub decreases-block : goal.decreases-block
decreases-block l = 10 * l.room + 4

abbrev pub decreases-called : goal.decreases-called
decreases-called l = 10 * l.room + 4

abbrev pub decreases-run_loop : goal.decreases-run_loop
decreases-run_loop l = 10 * l.room + 4

abbrev pub decreases-add_call : goal.decreases-add_call
decreases-add_call l = 10 * l.room + 5

-- what is evaluated changes the values of calls alone
abbrev pub invariant-expressions-loop-e : goal.invariant-expressions-loop-e
invariant-expressions-loop-e l = l.frame ≡ record l.initial.frame { calls = l.frame.calls }

-- What stands so far is lowered.
use Rattle.std.proofs.Common.{map, take}
use Rattle.statement_forms.specs.Views.{core_statements}
use Rattle.statement_forms.specs.Forms.{branch_of}
use Rattle.statement_parts.specs.Statements.{plain_all_of, plain_branches_of, plain_items_of}
use Rattle.lowering.specs.Hidden.{Makes, hidden_in}
use Rattle.lowering.specs.Cases.{case_made}
use Rattle.lowering.specs.Lowering.{LowersAll, LowersBranches, LowersItems}
use Rattle.statement_parts.specs.Places.{surroundings}
use Rattle.lowering.proofs.statements.+lowering.Given as goal

abbrev pub invariant-lower_all-loop-s : goal.invariant-lower_all-loop-s
invariant-lower_all-loop-s l = Makes (hidden_in l.initial.hidden) (hidden_in l.hidden) (LowersAll (surroundings l.around.design.now) l.around.scope (plain_all_of (take l.s-index l.body)) (core_statements l.made))

abbrev pub invariant-lower_branches-loop-branch : goal.invariant-lower_branches-loop-branch
invariant-lower_branches-loop-branch l =
    Makes (hidden_in l.initial.hidden) (hidden_in l.hidden) (LowersBranches (surroundings l.around.design.now) l.around.scope (plain_branches_of (take l.branch-index l.branches)) (map branch_of l.made.items))

abbrev pub invariant-lower_items-loop-item : goal.invariant-lower_items-loop-item
invariant-lower_items-loop-item l =
    Makes (hidden_in l.initial.hidden) (hidden_in l.hidden) (LowersItems (surroundings l.around.design.now) l.around.scope l.shape l.name (plain_items_of (take l.item-index l.items)) (case_made l.parts).0 (case_made l.parts).1)

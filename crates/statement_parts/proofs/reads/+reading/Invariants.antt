-- What is still to be added are the reads of the statements, branches or items that are left.
use Rattle.std.proofs.Common.{◌≡◌, ◌++◌, map, drop, string_bytes}
use Rattle.statement_parts.specs.Statements.{plain_all_of, plain_branches_of, plain_items_of}
use Rattle.statement_parts.specs.Places.{surroundings}
use Rattle.statement_parts.specs.Reads.{read_in_all, read_in_branches, read_in_items}
use Rattle.statement_parts.proofs.reads.+reading.Given as goal

abbrev pub invariant-add_body_reads-loop-s : goal.invariant-add_body_reads-loop-s
invariant-add_body_reads-loop-s l =
    map string_bytes l.found.items ++ read_in_all (surroundings l.around.design.now) l.around.scope (plain_all_of (drop l.s-index l.body))
    ≡ map string_bytes l.initial.found.items ++ read_in_all (surroundings l.around.design.now) l.around.scope (plain_all_of l.body)

abbrev pub invariant-add_branch_reads-loop-branch : goal.invariant-add_branch_reads-loop-branch
invariant-add_branch_reads-loop-branch l =
    map string_bytes l.found.items ++ read_in_branches (surroundings l.around.design.now) l.around.scope (plain_branches_of (drop l.branch-index l.branches))
    ≡ map string_bytes l.initial.found.items ++ read_in_branches (surroundings l.around.design.now) l.around.scope (plain_branches_of l.branches)

abbrev pub invariant-add_item_reads-loop-item : goal.invariant-add_item_reads-loop-item
invariant-add_item_reads-loop-item l =
    map string_bytes l.found.items ++ read_in_items (surroundings l.around.design.now) l.around.scope (plain_items_of (drop l.item-index l.items))
    ≡ map string_bytes l.initial.found.items ++ read_in_items (surroundings l.around.design.now) l.around.scope (plain_items_of l.items)

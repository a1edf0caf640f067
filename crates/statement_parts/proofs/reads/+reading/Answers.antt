-- The reads of one statement, one branch, one item more.
use Rattle.std.proofs.Common.{◌+◌, ◌++◌, List, map, string_bytes, refl, sym, ap, ◌∙◌, arith}
use Rattle.syntax_tree.specs.Expressions.{Expression, plain_expression_of}
use Rattle.syntax_tree.specs.declared.expressions.VerilogExpression as program
use Rattle.statement_parts.specs.Statements.{PlainStatement, PlainItem, plain_of, plain_all_of, plain_branch_of, plain_branches_of, plain_item_of, plain_items_of}
use Rattle.statement_parts.specs.Places.{surroundings}
use Rattle.statement_parts.specs.Reads.{read_by, listed_reads, read_in, read_in_all, read_in_branches, read_in_items}
use Rattle.statement_parts.proofs.Gathering.{next_added, next_two_added}
use Rattle.statement_parts.proofs.Nodes.{viewed_branch, viewed_item}
use Rattle.statement_parts.proofs.reads.+reading.Goals as goal

pub add_body_reads-loop-s-preserved : goal.add_body_reads-loop-s-preserved
add_body_reads-loop-s-preserved t c =
    let d = surroundings c.args.around.design.now in
    let scope = c.args.around.scope in
    next_added (λ ss. read_in_all d scope (plain_all_of ss)) (λ s. read_in d scope (plain_of s)) c.args.body.now c.loop-s.s-index c.s-item.result
    (map string_bytes c.loop-s.found.items) (map string_bytes c.add_statement_reads.new.found.items) _
    (λ s ss. refl) (omega arith) c.s-item.is c.in_ok-add_statement_reads.ensures c.loop-s.invariant

pub add_branch_reads-loop-branch-preserved : goal.add_branch_reads-loop-branch-preserved
add_branch_reads-loop-branch-preserved t c =
    let d = surroundings c.args.around.design.now in
    let scope = c.args.around.scope in
    let old = map string_bytes c.loop-branch.found.items in
    let mid = map string_bytes c.add_reads.new.found.items in
    let x = c.branch-item.result in
    next_two_added (λ bs. read_in_branches d scope (plain_branches_of bs)) (λ b. read_by (d.names scope) (plain_branch_of b).0) (λ b. read_in d scope (plain_branch_of b).1) c.args.branches.now c.loop-branch.branch-index x old mid
    (map string_bytes c.add_statement_reads.new.found.items) _ (λ b bs. refl) (omega arith) c.branch-item.is
    (c.in_ok-add_reads.ensures ∙ ap (λ (p : Expression × PlainStatement). old ++ read_by (d.names scope) p.0) (sym (viewed_branch x)))
    (c.in_ok-add_statement_reads.ensures ∙ ap (λ (p : Expression × PlainStatement). mid ++ read_in d scope p.1) (sym (viewed_branch x))) c.loop-branch.invariant

pub add_item_reads-loop-item-preserved : goal.add_item_reads-loop-item-preserved
add_item_reads-loop-item-preserved t c =
    let d = surroundings c.args.around.design.now in
    let scope = c.args.around.scope in
    let old = map string_bytes c.loop-item.found.items in
    let mid = map string_bytes c.add_all_reads.new.found.items in
    let x = c.item-item.result in
    next_two_added (λ is. read_in_items d scope (plain_items_of is)) (λ i. listed_reads (d.names scope) (plain_item_of i).labels) (λ i. read_in d scope (plain_item_of i).body) c.args.items.now c.loop-item.item-index x old mid
    (map string_bytes c.add_statement_reads.new.found.items) _ (λ i is. refl) (omega arith) c.item-item.is
    (c.in_ok-add_all_reads.ensures ∙ ap (λ (es : List program.VerilogExpression). old ++ listed_reads (d.names scope) (map plain_expression_of es)) c.as_slice.ensures.value
    ∙ ap (λ (p : PlainItem). old ++ listed_reads (d.names scope) p.labels) (sym (viewed_item x)))
    (c.in_ok-add_statement_reads.ensures ∙ ap (λ (p : PlainItem). mid ++ read_in d scope p.body) (sym (viewed_item x))) c.loop-item.invariant

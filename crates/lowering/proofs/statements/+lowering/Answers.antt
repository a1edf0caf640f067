use Rattle.std.proofs.Common.{◌≡◌, [], List, Bor, map, sym, ap, ◌∙◌, subst, arith, rules}
use Rattle.std.specs.Prelude.{string_bytes, IfOk}
use Rattle.std.specs.Box.{box_value}
use Rattle.model.specs.Syntax.{Text}
use Rattle.model.specs.declared.tree.SourceExpression.{SourceExpression}
use Rattle.model.specs.SourceTrees.{source_expression_of, source_statement_of}
use Rattle.syntax_tree.specs.Expressions.{plain_expression_of}
use Rattle.syntax_tree.specs.declared.statements.BlockForm.{BlockForm}
use Rattle.syntax_tree.specs.declared.statements.BlockForm.TheVariants.{Sequential}
use Rattle.syntax_tree.specs.declared.statements.CaseForm.{CaseForm}
use Rattle.syntax_tree.specs.declared.statements.CaseForm.TheVariants as cases
use Rattle.syntax_tree.specs.declared.statements.VerilogStatement.{VerilogStatement}
use Rattle.syntax_tree.specs.declared.statements.VerilogStatement.TheViews.{the_lemmas}
use Rattle.syntax_tree.specs.declared.statements.VariableAssignment.{VariableAssignment}
use Rattle.syntax_tree.specs.declared.statements.CaseItem.{CaseItem}
use Rattle.syntax_tree.specs.declared.statements.ConditionalBranch.{ConditionalBranch, out-ConditionalBranch}
use Rattle.design_scopes.specs.Places.{means, names_in_scope}
use Rattle.design_scopes.specs.declared.scoped.ScopedDesign.{ScopedDesign}
use Rattle.statement_forms.specs.Views.{core_statements}
use Rattle.statement_forms.specs.Forms.{branch_of, case_of}
use Rattle.statement_parts.specs.Statements as plain
use Rattle.statement_parts.specs.Statements.{plain_of, plain_all_of, plain_branches_of, plain_items_of, plain_assignment, plain_control, otherwise_of, name_in}
use Rattle.statement_parts.specs.Surroundings.{Surroundings}
use Rattle.statement_parts.specs.Places.{surroundings}
use Rattle.lowering.specs.Hidden.{Makes, hidden_in}
use Rattle.lowering.specs.Cases.{case_made}
use Rattle.sizing.specs.Names.{Names}
use Rattle.lowering.specs.Lowering.{TakesItemsIn, Lowers, LowersAll, LowersItems, IsDelayed, IsAwaited, IsWaitLoop, IsWhile, IsFor, IsSelfLowered}
use Rattle.lowering.proofs.Shapes.{case_items_in, item_taken_at}
use Rattle.lowering.proofs.Variables.{makes_none}
use Rattle.lowering.proofs.Parts.{stands_ok}
use Rattle.lowering.proofs.Views.{viewed_block, viewed_delayed, viewed_awaited, viewed_wait, viewed_if, viewed_case, viewed_for, viewed_repeat, viewed_while, viewed_forever}
use Rattle.lowering.proofs.Steps.{stands, step_ok, repeat_ok, delayed_step, awaited_step, wait_step, while_step, forever_step, for_step, block_step, if_step, case_step, all_more, branches_more, items_more, all_start, branches_start, items_start, all_end, branches_end, items_end, else_lowered, no_else_lowered}
use Rattle.lowering.proofs.statements.+lowering.Goals as goal

pub lower_statement-returns-in_ok-late-in-Delayed : goal.lower_statement-returns-in_ok-late-in-Delayed
lower_statement-returns-in_ok-late-in-Delayed t c =
    let d = surroundings c.args.around.design.now in
    let scope = c.args.around.scope in
    let a = c.in-Delayed in
    let old = hidden_in c.args.hidden.now in
    let new = hidden_in c.lower_in_box.new.hidden in
    let inside = a.body.value in
    let t0 = source_statement_of c.in_ok-late-in-Delayed.late.value in
    let lowered : Makes old new (Lowers d scope (plain_of inside) t0) = subst (λ (s : VerilogStatement). Makes old new (Lowers d scope (plain_of s) t0)) c.deref.ensures c.in_ok-late-in-Delayed.ensures in
    let source = plain.Delayed a.token (plain_expression_of a.delay) (plain_of inside) in
    step_ok d old new scope (plain_of c.args.s.now) (IsDelayed d scope (plain_expression_of a.delay) t0) c.delayed.result
    (λ made is. stands d old new scope (plain_of c.args.s.now) source made (viewed_delayed c.args.s.now a.token a.delay a.body a.is) (delayed_step d old new scope a.token (plain_expression_of a.delay) (plain_of inside) t0 made lowered is))
    c.delayed.ensures

pub lower_statement-returns-in_ok-woken-in-Awaited : goal.lower_statement-returns-in_ok-woken-in-Awaited
lower_statement-returns-in_ok-woken-in-Awaited t c =
    let d = surroundings c.args.around.design.now in
    let scope = c.args.around.scope in
    let a = c.in-Awaited in
    let old = hidden_in c.args.hidden.now in
    let new = hidden_in c.lower_in_box-in-Awaited.new.hidden in
    let inside = a.body.value in
    let t0 = source_statement_of c.in_ok-woken-in-Awaited.woken.value in
    let lowered : Makes old new (Lowers d scope (plain_of inside) t0) = subst (λ (s : VerilogStatement). Makes old new (Lowers d scope (plain_of s) t0)) c.deref-in-Awaited.ensures c.in_ok-woken-in-Awaited.ensures in
    let source = plain.Awaited a.token (plain_control a.control) (plain_of inside) in
    step_ok d old new scope (plain_of c.args.s.now) (IsAwaited d scope (plain_control a.control) (plain_of inside) t0) c.awaited.result
    (λ made is. stands d old new scope (plain_of c.args.s.now) source made (viewed_awaited c.args.s.now a.token a.control a.body a.is) (awaited_step d old new scope a.token (plain_control a.control) (plain_of inside) t0 made lowered is))
    (subst (λ (s : VerilogStatement). IfOk c.awaited.result (λ made. IsAwaited d scope (plain_control a.control) (plain_of s) t0 (source_statement_of made))) c.deref-in-Awaited-2.ensures c.awaited.ensures)

pub lower_statement-returns-in_ok-behind-in-Wait : goal.lower_statement-returns-in_ok-behind-in-Wait
lower_statement-returns-in_ok-behind-in-Wait t c =
    let d = surroundings c.args.around.design.now in
    let scope = c.args.around.scope in
    let a = c.in-Wait in
    let old = hidden_in c.args.hidden.now in
    let new = hidden_in c.lower_in_box-in-Wait.new.hidden in
    let inside = a.body.value in
    let t0 = source_statement_of c.in_ok-behind-in-Wait.behind.value in
    let lowered : Makes old new (Lowers d scope (plain_of inside) t0) = subst (λ (s : VerilogStatement). Makes old new (Lowers d scope (plain_of s) t0)) c.deref-in-Wait.ensures c.in_ok-behind-in-Wait.ensures in
    let source = plain.Wait a.token (plain_expression_of a.condition) (plain_of inside) in
    step_ok d old new scope (plain_of c.args.s.now) (IsWaitLoop d scope (plain_expression_of a.condition) t0) c.waiting.result
    (λ made is. stands d old new scope (plain_of c.args.s.now) source made (viewed_wait c.args.s.now a.token a.condition a.body a.is) (wait_step d old new scope a.token (plain_expression_of a.condition) (plain_of inside) t0 made lowered is))
    c.waiting.ensures

pub lower_statement-returns-in_ok-turn-in-For : goal.lower_statement-returns-in_ok-turn-in-For
lower_statement-returns-in_ok-turn-in-For t c =
    let d = surroundings c.args.around.design.now in
    let scope = c.args.around.scope in
    let a = c.in-For in
    let old = hidden_in c.args.hidden.now in
    let new = hidden_in c.lower_in_box-in-For.new.hidden in
    let inside = a.body.value in
    let t0 = source_statement_of c.in_ok-turn-in-For.turn.value in
    let lowered : Makes old new (Lowers d scope (plain_of inside) t0) = subst (λ (s : VerilogStatement). Makes old new (Lowers d scope (plain_of s) t0)) c.deref-in-For.ensures c.in_ok-turn-in-For.ensures in
    let source = plain.For a.token (plain_assignment (box_value a.start)) (plain_expression_of a.condition) (plain_assignment (box_value a.step)) (plain_of inside) in
    step_ok d old new scope (plain_of c.args.s.now) (IsFor d scope (plain_assignment (box_value a.start)) (plain_expression_of a.condition) (plain_assignment (box_value a.step)) t0) c.counting.result
    (λ made is. stands d old new scope (plain_of c.args.s.now) source made (viewed_for c.args.s.now a.token a.start a.condition a.step a.body a.is) (for_step d old new scope a.token (plain_assignment (box_value a.start)) (plain_assignment (box_value a.step)) (plain_expression_of a.condition) (plain_of inside) t0 made lowered is))
    (subst (λ (x : VariableAssignment). IfOk c.counting.result (λ made. IsFor d scope (plain_assignment x) (plain_expression_of a.condition) (plain_assignment (box_value a.step)) t0 (source_statement_of made))) c.deref-in-For-2.ensures
    (subst (λ (x : VariableAssignment). IfOk c.counting.result (λ made. IsFor d scope (plain_assignment c.deref-in-For-2.result.now) (plain_expression_of a.condition) (plain_assignment x) t0 (source_statement_of made))) c.deref-in-For-3.ensures c.counting.ensures))

pub lower_statement-returns-in_ok-inner-in-While : goal.lower_statement-returns-in_ok-inner-in-While
lower_statement-returns-in_ok-inner-in-While t c =
    let d = surroundings c.args.around.design.now in
    let scope = c.args.around.scope in
    let a = c.in-While in
    let old = hidden_in c.args.hidden.now in
    let new = hidden_in c.lower_in_box-in-While.new.hidden in
    let inside = a.body.value in
    let t0 = source_statement_of c.in_ok-inner-in-While.inner.value in
    let lowered : Makes old new (Lowers d scope (plain_of inside) t0) = subst (λ (s : VerilogStatement). Makes old new (Lowers d scope (plain_of s) t0)) c.deref-in-While.ensures c.in_ok-inner-in-While.ensures in
    let source = plain.While a.token (plain_expression_of a.condition) (plain_of inside) in
    step_ok d old new scope (plain_of c.args.s.now) (IsWhile d scope (plain_expression_of a.condition) t0) c.looping.result
    (λ made is. stands d old new scope (plain_of c.args.s.now) source made (viewed_while c.args.s.now a.token a.condition a.body a.is) (while_step d old new scope a.token (plain_expression_of a.condition) (plain_of inside) t0 made lowered is))
    c.looping.ensures

pub lower_statement-returns-in_ok-again-in-Repeat : goal.lower_statement-returns-in_ok-again-in-Repeat
lower_statement-returns-in_ok-again-in-Repeat t c =
    let d = surroundings c.args.around.design.now in
    let scope = c.args.around.scope in
    let a = c.in-Repeat in
    let old = hidden_in c.args.hidden.now in
    let mid = hidden_in c.lower_in_box-in-Repeat.new.hidden in
    let new = hidden_in c.repeated.new.hidden in
    let t0 = source_statement_of c.in_ok-again-in-Repeat.again.value in
    let lowered : Makes old mid (Lowers d scope (plain_of a.body.value) t0) = subst (λ (s : VerilogStatement). Makes old mid (Lowers d scope (plain_of s) t0)) c.deref-in-Repeat.ensures c.in_ok-again-in-Repeat.ensures in
    repeat_ok d old mid new scope a.token (plain_expression_of a.count) (plain_of c.args.s.now) (plain_of a.body.value) t0 c.repeated.result (viewed_repeat c.args.s.now a.token a.count a.body a.is) lowered c.repeated.ensures

pub lower_statement-returns-in_ok-turns-in-Forever : goal.lower_statement-returns-in_ok-turns-in-Forever
lower_statement-returns-in_ok-turns-in-Forever t c =
    let d = surroundings c.args.around.design.now in
    let scope = c.args.around.scope in
    let a = c.in-Forever in
    let old = hidden_in c.args.hidden.now in
    let new = hidden_in c.lower_statement.new.hidden in
    let t0 = source_statement_of c.in_ok-always-in-Forever.always in
    let made = source_statement_of c.in_ok-turns-in-Forever.turns in
    let lowered : Makes old new (Lowers d scope (plain_of a.body.value) t0) = subst (λ (s : VerilogStatement). Makes old new (Lowers d scope (plain_of s) t0)) c.deref-in-Forever.ensures c.in_ok-always-in-Forever.ensures in
    stands d old new scope (plain_of c.args.s.now) (plain.Forever a.token (plain_of a.body.value)) made (viewed_forever c.args.s.now a.token a.body a.is) (forever_step d old new scope a.token (plain_of a.body.value) t0 made lowered c.in_ok-turns-in-Forever.ensures)

pub lower_statement-returns-in_ok-refuse_parallel-in-Block : goal.lower_statement-returns-in_ok-refuse_parallel-in-Block
lower_statement-returns-in_ok-refuse_parallel-in-Block t c =
    let d = surroundings c.args.around.design.now in
    let a = c.in-Block in
    let body = c.as_slice.result.now in
    stands_ok d (hidden_in c.args.hidden.now) (hidden_in c.lower_block.new.hidden) c.args.around.scope (plain_of c.args.s.now) (plain.Block a.token Sequential (name_in a.name) (plain_all_of body)) c.lower_block.result
    (viewed_block c.args.s.now a.token a.form a.name _ a.body a.is ∙ ap (λ (f : BlockForm). plain.Block a.token f (name_in a.name) (plain_all_of a.body.items)) c.in_ok-refuse_parallel-in-Block.ensures
    ∙ ap (λ (xs : List VerilogStatement). plain.Block a.token Sequential (name_in a.name) (plain_all_of xs)) (sym c.as_slice.ensures.value)) c.lower_block.ensures

pub lower_statement-returns-in_ok-refuse_dont_cares-in-Case : goal.lower_statement-returns-in_ok-refuse_dont_cares-in-Case
lower_statement-returns-in_ok-refuse_dont_cares-in-Case t c =
    let d = surroundings c.args.around.design.now in
    let a = c.in-Case in
    let items = c.as_slice-in-Case.result.now in
    stands_ok d (hidden_in c.args.hidden.now) (hidden_in c.lower_case.new.hidden) c.args.around.scope (plain_of c.args.s.now) (plain.Case a.token cases.Case (plain_expression_of a.selector) (plain_items_of items)) c.lower_case.result
    (viewed_case c.args.s.now a.token a.form a.selector a.items a.is ∙ ap (λ (f : CaseForm). plain.Case a.token f (plain_expression_of a.selector) (plain_items_of a.items.items)) c.in_ok-refuse_dont_cares-in-Case.ensures
    ∙ ap (λ (xs : List CaseItem). plain.Case a.token cases.Case (plain_expression_of a.selector) (plain_items_of xs)) (sym c.as_slice-in-Case.ensures.value)) c.lower_case.ensures

pub lower_statement-returns-in_ok-choice-in-If : goal.lower_statement-returns-in_ok-choice-in-If
lower_statement-returns-in_ok-choice-in-If t c =
    let d = surroundings c.args.around.design.now in
    let a = c.in-If in
    let old = hidden_in c.args.hidden.now in
    let mid = hidden_in c.lower_branches.new.hidden in
    let new = hidden_in c.lower_otherwise.new.hidden in
    let branches = c.as_slice-in-If.result.now in
    let made = source_statement_of c.block_of.result in
    stands d old new c.args.around.scope (plain_of c.args.s.now) (plain.If a.token (plain_branches_of branches) (otherwise_of a.otherwise)) made
    (viewed_if c.args.s.now a.token a.branches a.otherwise a.is ∙ ap (λ (xs : List ConditionalBranch). plain.If a.token (plain_branches_of xs) (otherwise_of a.otherwise)) (sym c.as_slice-in-If.ensures.value))
    (if_step d old mid new c.args.around.scope a.token (plain_branches_of branches) (otherwise_of a.otherwise) (map branch_of c.in_ok-ways-in-If.ways.items) (core_statements c.in_ok-last-in-If.last) (core_statements c.in_ok-choice-in-If.choice) made c.in_ok-ways-in-If.ensures c.in_ok-last-in-If.ensures
    c.in_ok-choice-in-If.ensures c.block_of.ensures)

pub lower_statement-returns-in_default : goal.lower_statement-returns-in_default
lower_statement-returns-in_default t c =
    let d = surroundings c.args.around.design.now in
    let scope = c.args.around.scope in
    let source = plain_of c.args.s.now in
    let old = hidden_in c.args.hidden.now in
    step_ok d old old scope source (λ made. Lowers d scope source made []) c.without_body.result (λ made h. makes_none old (Lowers d scope source made) h) c.without_body.ensures

-- ---- a block

pub lower_block-returns : goal.lower_block-returns
lower_block-returns t c =
    let d = surroundings c.args.around.design.now in
    let old = hidden_in c.args.hidden.now in
    let new = hidden_in c.lower_all.new.hidden in
    let inner = c.in_ok-inner.inner in
    let ts = core_statements c.in_ok-made.made in
    let same : surroundings inner.design.now ≡ d = ap (λ (x : Bor ScopedDesign). surroundings x.now) c.in_ok-inner.ensures.0 in
    block_step d old new c.args.around.scope inner.scope c.args.token (name_in c.args.name.now) (plain_all_of c.args.body.now) ts (source_statement_of c.block_of.result) c.in_ok-inner.ensures.1
    (subst (λ (x : Surroundings). Makes old new (LowersAll x inner.scope (plain_all_of c.args.body.now) ts)) same c.in_ok-made.ensures) c.block_of.ensures

-- ---- lists

pub lower_all-loop-s-init : goal.lower_all-loop-s-init
lower_all-loop-s-init t c = all_start (surroundings c.args.around.design.now) (hidden_in c.args.hidden.now) c.args.around.scope c.new-made.result.items c.new-made.ensures.items

pub lower_all-loop-s-preserved : goal.lower_all-loop-s-preserved
lower_all-loop-s-preserved t c =
    all_more (surroundings c.args.around.design.now) (hidden_in c.args.hidden.now) (hidden_in c.loop-s.hidden) (hidden_in c.lower_statement.new.hidden) c.args.around.scope c.args.body.now c.loop-s.s-index c.s-item.result c.loop-s.made.items c.push.new.self.items
    c.in_ok-next.next c.loop-s-test.true c.s-item.is c.loop-s.invariant c.in_ok-next.ensures c.in_ok-push.ensures.items

pub lower_all-returns : goal.lower_all-returns
lower_all-returns t c =
    all_end (surroundings c.args.around.design.now) (hidden_in c.args.hidden.now) (hidden_in c.loop-s.hidden) c.args.around.scope c.args.body.now c.loop-s.s-index (core_statements c.loop-s.made) (omega arith) c.loop-s.invariant

pub lower_branches-loop-branch-init : goal.lower_branches-loop-branch-init
lower_branches-loop-branch-init t c = branches_start (surroundings c.args.around.design.now) (hidden_in c.args.hidden.now) c.args.around.scope c.new-made.result.items c.new-made.ensures.items

pub lower_branches-loop-branch-preserved : goal.lower_branches-loop-branch-preserved
lower_branches-loop-branch-preserved t c =
    branches_more (surroundings c.args.around.design.now) (hidden_in c.args.hidden.now) (hidden_in c.loop-branch.hidden) (hidden_in c.lower_statement.new.hidden) c.args.around.scope c.args.branches.now c.loop-branch.branch-index c.branch-item.result c.loop-branch.made.items
    c.push.new.self.items (record { condition = c.into_inner-condition.result; body = c.in_ok-body.body }) (source_statement_of c.in_ok-next.next) c.loop-branch-test.true c.branch-item.is c.loop-branch.invariant
    (subst (λ (t : SourceExpression). IsSelfLowered (names_in_scope c.args.around.design.now.tree.scopes.items c.args.around.design.now.objects.items c.args.around.scope) (plain_expression_of (out-ConditionalBranch c.branch-item.result).condition) (source_expression_of t)) (sym c.into_inner-condition.ensures) c.in_ok-condition.ensures) c.in_ok-next.ensures
    c.in_ok-body.ensures c.in_ok-push.ensures.items

pub lower_branches-returns : goal.lower_branches-returns
lower_branches-returns t c =
    branches_end (surroundings c.args.around.design.now) (hidden_in c.args.hidden.now) (hidden_in c.loop-branch.hidden) c.args.around.scope c.args.branches.now c.loop-branch.branch-index (map branch_of c.loop-branch.made.items) (omega arith) c.loop-branch.invariant

-- ---- the last else

pub lower_otherwise-returns-in_ok-last-in-Some : goal.lower_otherwise-returns-in_ok-last-in-Some
lower_otherwise-returns-in_ok-last-in-Some t c =
    let d = surroundings c.args.around.design.now in
    let old = hidden_in c.args.hidden.now in
    let new = hidden_in c.lower_statement.new.hidden in
    let t0 = source_statement_of c.in_ok-made-in-Some.made in
    else_lowered d old new c.args.around.scope c.args.otherwise.now c.in-Some.body t0 (core_statements c.in_ok-last-in-Some.last) c.in-Some.is
    (subst (λ (s : VerilogStatement). Makes old new (Lowers d c.args.around.scope (plain_of s) t0)) c.deref.ensures c.in_ok-made-in-Some.ensures) c.in_ok-last-in-Some.ensures

pub lower_otherwise-returns-in-None : goal.lower_otherwise-returns-in-None
lower_otherwise-returns-in-None t c =
    no_else_lowered (surroundings c.args.around.design.now) (hidden_in c.args.hidden.now) c.args.around.scope c.args.otherwise.now (core_statements c.new.result) c.in-None.is (ap (map source_statement_of) c.new.ensures.items)

-- ---- a case

pub lower_case-lower_items-requires : goal.lower_case-lower_items-requires
lower_case-lower_items-requires t c =
    let items = plain_items_of c.args.items.now in
    let takes : TakesItemsIn (means c.place-place.result) c.in_ok-shape.shape items = case_items_in (means c.place-place.result) (plain_expression_of c.args.selector.now) items c.in_ok-shape.shape c.in_ok-shape.ensures in
    (first_of (search (rules, the_lemmas), omega arith), subst (λ (n : Names). TakesItemsIn n c.in_ok-shape.shape items) c.place-place.ensures takes)

pub lower_case-returns : goal.lower_case-returns
lower_case-returns t c =
    let d = surroundings c.args.around.design.now in
    let mid = hidden_in c.make.new.self in
    let new = hidden_in c.lower_items.new.hidden in
    let name = string_bytes c.in_ok-name.name in
    let tree = source_expression_of c.in_ok-tree.tree in
    let parts = case_made c.in_ok-parts.parts in
    let made = source_statement_of c.in_ok-made.made in
    case_step d (means c.place-place.result) (hidden_in c.args.hidden.now) mid new c.args.around.scope c.args.token name (plain_expression_of c.args.selector.now) tree (plain_items_of c.args.items.now) c.in_ok-shape.shape parts.0 parts.1 made
    c.place-place.ensures c.in_ok-shape.ensures c.in_ok-tree.ensures c.in_ok-name.ensures.made
    (subst (λ (text : Text). Makes mid new (LowersItems d c.args.around.scope c.in_ok-shape.shape text (plain_items_of c.args.items.now) parts.0 parts.1)) c.as_str.ensures.value c.in_ok-parts.ensures)
    (c.in_ok-made.ensures ∙ ap (λ (t : SourceExpression). case_of c.as_str-2.result.now (source_expression_of t) parts.0 parts.1) (c.into_inner-tree.ensures ∙ c.in_ok-kept.ensures.ok) ∙ ap (λ (text : Text). case_of text tree parts.0 parts.1) c.as_str-2.ensures.value)

pub lower_items-loop-item-init : goal.lower_items-loop-item-init
lower_items-loop-item-init t c =
    items_start (surroundings c.args.around.design.now) (hidden_in c.args.hidden.now) c.args.around.scope c.args.shape.now c.args.name.now (case_made c.new-parts.result) c.new-parts.ensures

pub lower_items-add_item-requires : goal.lower_items-add_item-requires
lower_items-add_item-requires t c =
    let design = c.args.around.design.now in
    let names : Names = names_in_scope design.tree.scopes.items design.objects.items c.args.around.scope in
    item_taken_at names c.args.shape.now c.args.items.now c.loop-item.item-index c.item-item.result c.loop-item-test.true c.item-item.is c.requires.1.1

pub lower_items-loop-item-preserved : goal.lower_items-loop-item-preserved
lower_items-loop-item-preserved t c =
    items_more (surroundings c.args.around.design.now) (hidden_in c.args.hidden.now) (hidden_in c.loop-item.hidden) (hidden_in c.lower_in_box.new.hidden) c.args.around.scope c.args.shape.now c.args.name.now c.args.items.now c.loop-item.item-index c.item-item.result
    (case_made c.loop-item.parts) (case_made c.add_item.new.self) (source_statement_of c.in_ok-body.body.value) c.loop-item-test.true c.item-item.is c.loop-item.invariant c.in_ok-body.ensures c.in_ok-add_item.ensures

pub lower_items-returns : goal.lower_items-returns
lower_items-returns t c =
    items_end (surroundings c.args.around.design.now) (hidden_in c.args.hidden.now) (hidden_in c.loop-item.hidden) c.args.around.scope c.args.shape.now c.args.name.now c.args.items.now c.loop-item.item-index (case_made c.loop-item.parts) (omega arith) c.loop-item.invariant

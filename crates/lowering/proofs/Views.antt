-- The plain tree of each form of statement.
use Rattle.std.proofs.Common.{◌≡◌, map, Some, None, ap, sym, ◌∙◌}
use Rattle.std.specs.Box.{box_value}
use Rattle.syntax_tree.specs.Expressions.{Expression, plain_expression_of}
use Rattle.syntax_tree.specs.declared.statements.VerilogStatement.{VerilogStatement, fold-roll-VerilogStatement}
use Rattle.syntax_tree.specs.declared.statements.VerilogStatement.TheOpen.{VerilogStatement-F}
use Rattle.syntax_tree.specs.declared.statements.VerilogStatement.TheViews as view
use Rattle.syntax_tree.specs.declared.statements.VerilogStatement.TheVariants as made
use Rattle.syntax_tree.specs.declared.statements.VerilogStatement.TheVariants.{rolls-Block, rolls-Delayed, rolls-Awaited, rolls-Wait, rolls-If, rolls-Case, rolls-For, rolls-Repeat, rolls-While, rolls-Forever, rolls-Empty, rolls-Assignment, rolls-Trigger, rolls-SystemTaskCall}
use Rattle.statement_parts.specs.Statements as plain
use Rattle.statement_parts.specs.Statements.{PlainStatement, PlainItem, name_in, plain_control, plain_assignment, plain_argument, timing_of, otherwise_of, plain_node, branch_node, item_node, plain_of, plain_all_of, plain_branches_of, plain_items_of}

pub viewed_block : (s : VerilogStatement) (token : _) (form : _) (name : _) (items : _) (body : _) → s ≡ view.Block token form name items body → plain_of s ≡ plain.Block token form (name_in name) (plain_all_of body.items)
viewed_block s token form name items body is = ap plain_of (is ∙ sym (rolls-Block token form name items body)) ∙ fold-roll-VerilogStatement PlainStatement PlainItem (Expression × PlainStatement) plain_node item_node branch_node (VerilogStatement-F.Block token form name items body)

pub viewed_delayed : (s : VerilogStatement) (token : _) (delay : _) (body : _) → s ≡ view.Delayed token delay body → plain_of s ≡ plain.Delayed token (plain_expression_of delay) (plain_of body.value)
viewed_delayed s token delay body is = ap plain_of (is ∙ sym (rolls-Delayed token delay body)) ∙ fold-roll-VerilogStatement PlainStatement PlainItem (Expression × PlainStatement) plain_node item_node branch_node (VerilogStatement-F.Delayed token delay body)

pub viewed_awaited : (s : VerilogStatement) (token : _) (control : _) (body : _) → s ≡ view.Awaited token control body → plain_of s ≡ plain.Awaited token (plain_control control) (plain_of body.value)
viewed_awaited s token control body is = ap plain_of (is ∙ sym (rolls-Awaited token control body)) ∙ fold-roll-VerilogStatement PlainStatement PlainItem (Expression × PlainStatement) plain_node item_node branch_node (VerilogStatement-F.Awaited token control body)

pub viewed_wait : (s : VerilogStatement) (token : _) (condition : _) (body : _) → s ≡ view.Wait token condition body → plain_of s ≡ plain.Wait token (plain_expression_of condition) (plain_of body.value)
viewed_wait s token condition body is = ap plain_of (is ∙ sym (rolls-Wait token condition body)) ∙ fold-roll-VerilogStatement PlainStatement PlainItem (Expression × PlainStatement) plain_node item_node branch_node (VerilogStatement-F.Wait token condition body)

pub viewed_if : (s : VerilogStatement) (token : _) (branches : _) (otherwise : _) → s ≡ view.If token branches otherwise → plain_of s ≡ plain.If token (plain_branches_of branches.items) (otherwise_of otherwise)
viewed_if s token branches None is = ap plain_of (is ∙ sym (rolls-If token branches None)) ∙ fold-roll-VerilogStatement PlainStatement PlainItem (Expression × PlainStatement) plain_node item_node branch_node (VerilogStatement-F.If token branches None)
viewed_if s token branches (Some body) is = ap plain_of (is ∙ sym (rolls-If token branches (Some body))) ∙ fold-roll-VerilogStatement PlainStatement PlainItem (Expression × PlainStatement) plain_node item_node branch_node (VerilogStatement-F.If token branches (Some body))

pub viewed_case : (s : VerilogStatement) (token : _) (form : _) (selector : _) (items : _) → s ≡ view.Case token form selector items → plain_of s ≡ plain.Case token form (plain_expression_of selector) (plain_items_of items.items)
viewed_case s token form selector items is = ap plain_of (is ∙ sym (rolls-Case token form selector items)) ∙ fold-roll-VerilogStatement PlainStatement PlainItem (Expression × PlainStatement) plain_node item_node branch_node (VerilogStatement-F.Case token form selector items)

pub viewed_for : (s : VerilogStatement) (token : _) (start : _) (condition : _) (step : _) (body : _) → s ≡ view.For token start condition step body → plain_of s ≡ plain.For token (plain_assignment (box_value start)) (plain_expression_of condition) (plain_assignment (box_value step)) (plain_of body.value)
viewed_for s token start condition step body is = ap plain_of (is ∙ sym (rolls-For token start condition step body)) ∙ fold-roll-VerilogStatement PlainStatement PlainItem (Expression × PlainStatement) plain_node item_node branch_node (VerilogStatement-F.For token start condition step body)

pub viewed_repeat : (s : VerilogStatement) (token : _) (count : _) (body : _) → s ≡ view.Repeat token count body → plain_of s ≡ plain.Repeat token (plain_expression_of count) (plain_of body.value)
viewed_repeat s token count body is = ap plain_of (is ∙ sym (rolls-Repeat token count body)) ∙ fold-roll-VerilogStatement PlainStatement PlainItem (Expression × PlainStatement) plain_node item_node branch_node (VerilogStatement-F.Repeat token count body)

pub viewed_while : (s : VerilogStatement) (token : _) (condition : _) (body : _) → s ≡ view.While token condition body → plain_of s ≡ plain.While token (plain_expression_of condition) (plain_of body.value)
viewed_while s token condition body is = ap plain_of (is ∙ sym (rolls-While token condition body)) ∙ fold-roll-VerilogStatement PlainStatement PlainItem (Expression × PlainStatement) plain_node item_node branch_node (VerilogStatement-F.While token condition body)

pub viewed_forever : (s : VerilogStatement) (token : _) (body : _) → s ≡ view.Forever token body → plain_of s ≡ plain.Forever token (plain_of body.value)
viewed_forever s token body is = ap plain_of (is ∙ sym (rolls-Forever token body)) ∙ fold-roll-VerilogStatement PlainStatement PlainItem (Expression × PlainStatement) plain_node item_node branch_node (VerilogStatement-F.Forever token body)

pub viewed_empty : (s : VerilogStatement) (token : _) → s ≡ made.Empty token → plain_of s ≡ plain.Empty token
viewed_empty s token is = ap plain_of (is ∙ sym (rolls-Empty token)) ∙ fold-roll-VerilogStatement PlainStatement PlainItem (Expression × PlainStatement) plain_node item_node branch_node (VerilogStatement-F.Empty token)

pub viewed_assignment : (s : VerilogStatement) (token : _) (form : _) (target : _) (timing : _) (value : _) → s ≡ made.Assignment token form target timing value → plain_of s ≡ plain.Assignment token form (plain_expression_of target) (timing_of timing) (plain_expression_of value)
viewed_assignment s token form target timing value is = ap plain_of (is ∙ sym (rolls-Assignment token form target timing value)) ∙ fold-roll-VerilogStatement PlainStatement PlainItem (Expression × PlainStatement) plain_node item_node branch_node (VerilogStatement-F.Assignment token form target timing value)

pub viewed_trigger : (s : VerilogStatement) (token : _) (event : _) → s ≡ made.Trigger token event → plain_of s ≡ plain.Trigger token (plain_expression_of event)
viewed_trigger s token event is = ap plain_of (is ∙ sym (rolls-Trigger token event)) ∙ fold-roll-VerilogStatement PlainStatement PlainItem (Expression × PlainStatement) plain_node item_node branch_node (VerilogStatement-F.Trigger token event)

pub viewed_task_call : (s : VerilogStatement) (token : _) (name : _) (arguments : _) → s ≡ made.SystemTaskCall token name arguments → plain_of s ≡ plain.SystemTaskCall token name.items (map plain_argument arguments.items)
viewed_task_call s token name arguments is = ap plain_of (is ∙ sym (rolls-SystemTaskCall token name arguments)) ∙ fold-roll-VerilogStatement PlainStatement PlainItem (Expression × PlainStatement) plain_node item_node branch_node (VerilogStatement-F.SystemTaskCall token name arguments)

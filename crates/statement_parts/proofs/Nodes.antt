-- The plain trees of a branch of an `if` and of an item of a `case`.
use Rattle.std.proofs.Common.{◌≡◌}
use Rattle.syntax_tree.specs.Expressions.{Expression, plain_expression_of, plain_expressions_of}
use Rattle.syntax_tree.specs.declared.statements.ConditionalBranch.{ConditionalBranch, out-ConditionalBranch, fold_out-ConditionalBranch}
use Rattle.syntax_tree.specs.declared.statements.CaseItem.{CaseItem, out-CaseItem, fold_out-CaseItem}
use Rattle.statement_parts.specs.Statements.{PlainStatement, PlainItem, plain_node, branch_node, item_node, plain_of, plain_branch_of, plain_item_of}

pub viewed_item : (x : CaseItem) → plain_item_of x ≡ record { at = (out-CaseItem x).token; labels = plain_expressions_of (out-CaseItem x).labels; body = plain_of (out-CaseItem x).body }
viewed_item x = fold_out-CaseItem PlainStatement PlainItem (Expression × PlainStatement) plain_node item_node branch_node x

pub viewed_branch : (x : ConditionalBranch) → plain_branch_of x ≡ (plain_expression_of (out-ConditionalBranch x).condition, plain_of (out-ConditionalBranch x).body)
viewed_branch x = fold_out-ConditionalBranch PlainStatement PlainItem (Expression × PlainStatement) plain_node item_node branch_node x

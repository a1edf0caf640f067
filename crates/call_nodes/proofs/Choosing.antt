-- The plain trees of choices.
use Rattle.std.proofs.Common.{◌≡◌, ℕ, List, [], ◌∷◌, ◌++◌, Some, None, Result, Ok, ap, sym, ◌∙◌, subst}
use Rattle.std.specs.Prelude.{IfOk}
use Rattle.std.specs.declared.alloc.Global.{Global}
use Rattle.std.specs.declared.boxed.Box.{Box}
use Rattle.std.specs.declared.vec.Vec.{Vec}
use Rattle.syntax_tree.specs.declared.statements.ConditionalBranch.{ConditionalBranch, out-ConditionalBranch}
use Rattle.syntax_tree.specs.declared.statements.VerilogStatement.{VerilogStatement, fold-roll-VerilogStatement}
use Rattle.syntax_tree.specs.declared.statements.VerilogStatement.TheOpen.{VerilogStatement-F}
use Rattle.syntax_tree.specs.declared.statements.VerilogStatement.TheVariants as made
use Rattle.syntax_tree.specs.declared.statements.VerilogStatement.TheVariants.{rolls-If}
use Rattle.syntax_tree.specs.Expressions.{Expression, plain_expression_of}
use Rattle.statement_parts.proofs.Nodes.{viewed_branch}
use Rattle.statement_parts.specs.Statements as plain
use Rattle.statement_parts.specs.Statements.{PlainBranches, PlainItem, PlainStatement, plain_of, plain_branches_of, plain_node, item_node, branch_node}

-- one branch
pub one_branch_is : (old new : List ConditionalBranch) (b : ConditionalBranch) → old ≡ [] → new ≡ old ++ b ∷ []
    → plain_branches_of new ≡ plain.Branch (plain_expression_of (out-ConditionalBranch b).condition) (plain_of (out-ConditionalBranch b).body) plain.NoBranch
one_branch_is old new b none is = ap plain_branches_of (is ∙ ap (λ bs. bs ++ b ∷ []) none) ∙ ap (λ x. plain.Branch x.0 x.1 plain.NoBranch) (viewed_branch b)

-- a choice without an `else`, and one with it
pub choice_is : (token : ℕ) (branches : Vec ConditionalBranch Global) (all : PlainBranches) → plain_branches_of branches.items ≡ all → plain_of (made.If token branches None) ≡ plain.If token all plain.NoElse
choice_is token branches all is =
    ap plain_of (sym (rolls-If token branches None)) ∙ fold-roll-VerilogStatement PlainStatement PlainItem (Expression × PlainStatement) plain_node item_node branch_node (VerilogStatement-F.If token branches None)
    ∙ ap (λ b. plain.If token b plain.NoElse) is

pub alternative_is : {E : Type 0} (token : ℕ) (made_branches : Result (Vec ConditionalBranch Global) E) (branches : Vec ConditionalBranch Global) (last : Box VerilogStatement Global) (all : PlainBranches) (s : VerilogStatement)
    → made_branches ≡ Ok branches → IfOk made_branches (λ bs. plain_branches_of bs.items ≡ all) → last.value ≡ s
    → plain_of (made.If token branches (Some last)) ≡ plain.If token all (plain.Else (plain_of s))
alternative_is token made_branches branches last all s so h same =
    let is : plain_branches_of branches.items ≡ all = subst (λ r. IfOk r (λ bs. plain_branches_of bs.items ≡ all)) so h in
    ap plain_of (sym (rolls-If token branches (Some last))) ∙ fold-roll-VerilogStatement PlainStatement PlainItem (Expression × PlainStatement) plain_node item_node branch_node (VerilogStatement-F.If token branches (Some last))
    ∙ ap (λ b. plain.If token b (plain.Else (plain_of last.value))) is ∙ ap (λ x. plain.If token all (plain.Else (plain_of x))) same

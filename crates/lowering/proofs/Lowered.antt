-- Statements, branches and items of which one more is lowered.
use Rattle.std.proofs.Common.{◌≡◌, ℕ, List, [], ◌∷◌, ◌++◌, Some, None, append_assoc, append-nil, sym, subst}
use Rattle.model.specs.Syntax as core
use Rattle.model.specs.Syntax.{SourceStatement}
use Rattle.shaped_trees.specs.declared.shape.Shape.{Shape}
use Rattle.syntax_tree.specs.Expressions.{Expression}
use Rattle.statement_forms.specs.Forms.{PlainBranch, any_fits}
use Rattle.statement_parts.specs.Statements.{SourceText, PlainStatement, PlainStatements, PlainBranches, PlainItems, PlainItem, plain_statements, plain_branches, plain_items}
use Rattle.statement_parts.specs.Surroundings.{Surroundings}
use Rattle.lowering.specs.Hidden.{HiddenList}
use Rattle.lowering.specs.Lowering.{IsSelfLowered, AreLowered, Lowers, LowersAll, lowers_none, lowers_one, LowersBranches, no_branch, one_branch, LowersItems, no_item, labelled, default}

-- hidden variables by another bracketing
all_used : (d : Surroundings) (scope : ℕ) (ss : PlainStatements) (made : List SourceStatement) (used more : HiddenList) → used ≡ more → LowersAll d scope ss made used → LowersAll d scope ss made more
all_used d scope ss made used more e h = subst (λ (us : HiddenList). LowersAll d scope ss made us) e h

branches_used : (d : Surroundings) (scope : ℕ) (bs : PlainBranches) (made : List PlainBranch) (used more : HiddenList) → used ≡ more → LowersBranches d scope bs made used → LowersBranches d scope bs made more
branches_used d scope bs made used more e h = subst (λ (us : HiddenList). LowersBranches d scope bs made us) e h

items_used : (d : Surroundings) (scope : ℕ) (shape : Shape) (hidden : SourceText) (items : PlainItems) (made : List PlainBranch) (last : List SourceStatement) (used more : HiddenList) → used ≡ more
    → LowersItems d scope shape hidden items made last used → LowersItems d scope shape hidden items made last more
items_used d scope shape hidden items made last used more e h = subst (λ (us : HiddenList). LowersItems d scope shape hidden items made last us) e h

-- a statement more
pub all_push : (d : Surroundings) (scope : ℕ) (ss : List PlainStatement) (made : List SourceStatement) (front : HiddenList) (s : PlainStatement) (t : SourceStatement) (own : HiddenList)
    → LowersAll d scope (plain_statements ss) made front → Lowers d scope s t own → LowersAll d scope (plain_statements (ss ++ s ∷ [])) (made ++ t ∷ []) (front ++ own)
all_push d scope [] _ _ s t own (lowers_none _) h =
    all_used d scope (plain_statements (s ∷ [])) (t ∷ []) (own ++ []) own (append-nil own) (lowers_one scope s t _ _ own [] h (lowers_none scope))
all_push d scope (x ∷ ss) _ _ s t own (lowers_one _ _ made _ others used more one rest) h =
    all_used d scope (plain_statements ((x ∷ ss) ++ s ∷ [])) (made ∷ (others ++ t ∷ [])) (used ++ (more ++ own)) ((used ++ more) ++ own) (sym (append_assoc used more own))
    (lowers_one scope x made _ _ used (more ++ own) one (all_push d scope ss others more s t own rest h))

-- a branch more
pub branches_push : (d : Surroundings) (scope : ℕ) (bs : List (Expression × PlainStatement)) (made : List PlainBranch) (front : HiddenList) (condition : Expression) (tree : core.Expression SourceText) (s : PlainStatement) (t : SourceStatement) (own : HiddenList)
    → LowersBranches d scope (plain_branches bs) made front → IsSelfLowered (d.names scope) condition tree → Lowers d scope s t own
    → LowersBranches d scope (plain_branches (bs ++ (condition, s) ∷ [])) (made ++ (tree, t ∷ []) ∷ []) (front ++ own)
branches_push d scope [] _ _ condition tree s t own (no_branch _) is h =
    branches_used d scope (plain_branches ((condition, s) ∷ [])) ((tree, t ∷ []) ∷ []) (own ++ []) own (append-nil own) (one_branch scope condition tree s t _ _ own [] is h (no_branch scope))
branches_push d scope (b ∷ bs) _ _ condition tree s t own (one_branch _ _ first _ made _ others used more one body rest) is h =
    branches_used d scope (plain_branches ((b ∷ bs) ++ (condition, s) ∷ [])) ((first, made ∷ []) ∷ (others ++ (tree, t ∷ []) ∷ [])) (used ++ (more ++ own)) ((used ++ more) ++ own) (sym (append_assoc used more own))
    (one_branch scope b.0 first b.1 made _ _ used (more ++ own) one body (branches_push d scope bs others more condition tree s t own rest is h))

-- an item with labels more
pub items_push : (d : Surroundings) (scope : ℕ) (shape : Shape) (hidden : SourceText) (items : List PlainItem) (made : List PlainBranch) (last : List SourceStatement) (front : HiddenList) (item : PlainItem) (trees : List (core.Expression SourceText)) (condition : core.Expression SourceText)
    (t : SourceStatement) (own : HiddenList) → LowersItems d scope shape hidden (plain_items items) made last front → AreLowered (d.names scope) shape item.labels trees → any_fits hidden trees None ≡ Some condition → Lowers d scope item.body t own
    → LowersItems d scope shape hidden (plain_items (items ++ item ∷ [])) (made ++ (condition, t ∷ []) ∷ []) last (front ++ own)
items_push d scope shape hidden [] _ _ _ item trees condition t own (no_item _ _ _) are fits h =
    items_used d scope shape hidden (plain_items (item ∷ [])) ((condition, t ∷ []) ∷ []) [] (own ++ []) own (append-nil own) (labelled scope item.at shape hidden item.labels trees condition item.body t _ _ _ own [] are fits h (no_item scope shape hidden))
items_push d scope shape hidden (i ∷ items) _ _ _ item trees condition t own (labelled _ _ _ _ _ first test _ made _ others last used more one same body rest) are fits h =
    items_used d scope shape hidden (plain_items ((i ∷ items) ++ item ∷ [])) ((test, made ∷ []) ∷ (others ++ (condition, t ∷ []) ∷ [])) last (used ++ (more ++ own)) ((used ++ more) ++ own) (sym (append_assoc used more own))
    (labelled scope i.at shape hidden i.labels first test i.body made _ _ _ used (more ++ own) one same body (items_push d scope shape hidden items others last more item trees condition t own rest are fits h))
items_push d scope shape hidden (i ∷ items) _ _ _ item trees condition t own (default _ _ _ _ _ made _ others used more body rest) are fits h =
    items_used d scope shape hidden (plain_items ((i ∷ items) ++ item ∷ [])) (others ++ (condition, t ∷ []) ∷ []) (made ∷ []) (used ++ (more ++ own)) ((used ++ more) ++ own) (sym (append_assoc used more own))
    (default scope i.at shape hidden i.body made _ _ used (more ++ own) body (items_push d scope shape hidden items others [] more item trees condition t own rest are fits h))

-- a default more, where there was none
pub default_push : (d : Surroundings) (scope : ℕ) (shape : Shape) (hidden : SourceText) (items : List PlainItem) (made : List PlainBranch) (front : HiddenList) (at : ℕ) (body : PlainStatement) (t : SourceStatement) (own : HiddenList)
    → LowersItems d scope shape hidden (plain_items items) made [] front → Lowers d scope body t own → LowersItems d scope shape hidden (plain_items (items ++ record { at = at; labels = []; body = body } ∷ [])) made (t ∷ []) (front ++ own)
default_push d scope shape hidden [] _ _ at body t own (no_item _ _ _) h =
    items_used d scope shape hidden (plain_items (record { at = at; labels = []; body = body } ∷ [])) [] (t ∷ []) (own ++ []) own (append-nil own) (default scope at shape hidden body t _ _ own [] h (no_item scope shape hidden))
default_push d scope shape hidden (i ∷ items) _ _ at body t own (labelled _ _ _ _ _ first test _ made _ others _ used more one same s rest) h =
    items_used d scope shape hidden (plain_items ((i ∷ items) ++ record { at = at; labels = []; body = body } ∷ [])) ((test, made ∷ []) ∷ others) (t ∷ []) (used ++ (more ++ own)) ((used ++ more) ++ own) (sym (append_assoc used more own))
    (labelled scope i.at shape hidden i.labels first test i.body made _ _ _ used (more ++ own) one same s (default_push d scope shape hidden items others more at body t own rest h))

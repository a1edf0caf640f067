-- Branches and labels that are taken from the end.
use Rattle.std.proofs.Common.{◌≡◌, List, [], ◌∷◌, ◌++◌, map, length, Option, Some, refl, ap, sym, ◌∙◌, arith}
use Rattle.std.proofs.lemmas.List.{map-append}
use Rattle.model.specs.declared.tree.SourceExpression as program
use Rattle.model.specs.Syntax.{Text, Expression, SourceStatement, IfElse}
use Rattle.model.specs.SourceTrees.{source_statements, source_expression_of}
use Rattle.statement_forms.specs.declared.choices.Branch.{Branch}
use Rattle.statement_forms.specs.Forms.{PlainBranch, if_chain, fits, or_also, any_fits, branch_of}

pub choice_last : (bs : List PlainBranch) (b : PlainBranch) (otherwise : List SourceStatement) → if_chain (bs ++ b ∷ []) otherwise ≡ if_chain bs (if_chain (b ∷ []) otherwise)
choice_last [] b otherwise = refl
choice_last (c ∷ bs) b otherwise = ap (λ ss. IfElse c.0 (source_statements c.1) (source_statements ss) ∷ []) (choice_last bs b otherwise)

pub any_fits_last : (hidden : Text) (ls : List (Expression Text)) (l : Expression Text) (behind : Option (Expression Text))
    → any_fits hidden (ls ++ l ∷ []) behind ≡ any_fits hidden ls (any_fits hidden (l ∷ []) behind)
any_fits_last hidden [] l behind = refl
any_fits_last hidden (m ∷ ls) l behind = ap (λ r. Some (or_also (fits hidden m) r)) (any_fits_last hidden ls l behind)

-- the last branch is taken
pub branch_taken : (xs ys : List Branch) (b : Branch) (made new : List SourceStatement) → xs ≡ ys ++ b ∷ [] → new ≡ if_chain (branch_of b ∷ []) made
    → if_chain (map branch_of ys) new ≡ if_chain (map branch_of xs) made
branch_taken xs ys b made new e is =
    ap (if_chain (map branch_of ys)) is ∙ sym (choice_last (map branch_of ys) (branch_of b) made) ∙ ap (λ bs. if_chain bs made) (sym (ap (map branch_of) e ∙ map-append branch_of ys (b ∷ [])))

-- all branches are
pub all_taken : (xs : List Branch) (made : List SourceStatement) → length xs ≡ 0 → made ≡ if_chain (map branch_of xs) made
all_taken [] made h = refl
all_taken (x ∷ xs) made h = absurd (omega arith)

-- the last label is taken
pub label_taken : (hidden : Text) (xs ys : List program.SourceExpression) (l : program.SourceExpression) (behind new : Option (Expression Text)) → xs ≡ ys ++ l ∷ [] → new ≡ any_fits hidden (source_expression_of l ∷ []) behind
    → any_fits hidden (map source_expression_of ys) new ≡ any_fits hidden (map source_expression_of xs) behind
label_taken hidden xs ys l behind new e is =
    ap (any_fits hidden (map source_expression_of ys)) is ∙ sym (any_fits_last hidden (map source_expression_of ys) (source_expression_of l) behind)
    ∙ ap (λ ls. any_fits hidden ls behind) (sym (ap (map source_expression_of) e ∙ map-append source_expression_of ys (l ∷ [])))

-- all labels are
pub labels_taken : (hidden : Text) (xs : List program.SourceExpression) (behind : Option (Expression Text)) → length xs ≡ 0 → behind ≡ any_fits hidden (map source_expression_of xs) behind
labels_taken hidden [] behind h = refl
labels_taken hidden (x ∷ xs) behind h = absurd (omega arith)

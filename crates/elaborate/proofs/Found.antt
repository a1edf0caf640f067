-- What is found first among declared names.
use Rattle.std.proofs.Common.{◌≡◌, List, [], ◌∷◌, ◌++◌, Option, Some, None, refl, sym, ap, ◌∙◌, append_assoc, append-nil}
use Rattle.model.specs.Elaboration.{Declared, Fault}
use Rattle.model.specs.declared.limits.ModuleLimits.{ModuleLimits}
use Rattle.elaborate.specs.FirstFindings.{or_fault, found_name, found_names}

-- one behind another
pub or_else_assoc : (a b c : Option Fault) → or_fault (or_fault a b) c ≡ or_fault a (or_fault b c)
or_else_assoc None b c = refl
or_else_assoc (Some f) b c = refl

pub found_names_append : (limits : ModuleLimits) (before xs ys : List Declared) → found_names limits before (xs ++ ys) ≡ or_fault (found_names limits before xs) (found_names limits (before ++ xs) ys)
found_names_append limits before [] ys = rw append-nil
found_names_append limits before (x ∷ xs) ys =
    ap (λ o. or_fault (found_name limits before x) o) (found_names_append limits (before ++ x ∷ []) xs ys ∙ ap (λ b. or_fault (found_names limits (before ++ x ∷ []) xs) (found_names limits b ys)) (append_assoc before (x ∷ []) xs))
    ∙ sym (or_else_assoc (found_name limits before x) (found_names limits (before ++ x ∷ []) xs) (found_names limits (before ++ x ∷ xs) ys))

-- Arguments that are added to those found so far.
use Rattle.std.proofs.Common.{◌≡◌, ℕ, ◌+◌, ◌<◌, List, [], ◌∷◌, ◌++◌, length, get_or, drop, map, refl, ap, sym, subst, ◌∙◌}
use Rattle.std.proofs.lemmas.List.{map-append}
use Rattle.syntax_tree.specs.declared.declarations.Declarator.{Declarator}
use Rattle.syntax_tree.specs.declared.declarations.Direction.{Direction}
use Rattle.statement_parts.proofs.Gathering.{next_added}
use Rattle.routine_texts.specs.declared.table.Argument.{Argument}
use Rattle.routine_texts.specs.Routines.{PlainArgument, argument_named}
use Rattle.routine_texts.specs.Tables.{argument_plain}

-- one is pushed
pushed_argument : (old new : List Argument) (a : Argument) (p : PlainArgument) → new ≡ old ++ a ∷ [] → argument_plain a ≡ p → map argument_plain new ≡ map argument_plain old ++ p ∷ []
pushed_argument old new a p is same = ap (map argument_plain) is ∙ map-append argument_plain old (a ∷ []) ∙ ap (λ q. map argument_plain old ++ q ∷ []) same

-- an argument by what declares its name
pub argument_same : (direction : Direction) (name : List ℕ) (d : Declarator) → name ≡ d.identifier.name.items → ◌≡◌ {A = PlainArgument} (record { direction = direction; name = name }) (argument_named direction d)
argument_same direction name d same = ap (λ (t : List ℕ). let p : PlainArgument = record { direction = direction; name = t } in p) same

-- one of those that are left is pushed
pub argument_added : (xs ys : List Declarator) (i : ℕ) (d : Declarator) (direction : Direction) (old new : List Argument) (a : Argument) (all : List PlainArgument) → xs ≡ ys → i < length xs → d ≡ get_or xs i d
    → new ≡ old ++ a ∷ [] → argument_plain a ≡ argument_named direction d → map argument_plain old ++ map (argument_named direction) (drop i ys) ≡ all → map argument_plain new ++ map (argument_named direction) (drop (i + 1) ys) ≡ all
argument_added xs ys i d direction old new a all same less is pushed names before =
    next_added (map (argument_named direction)) (λ e. argument_named direction e ∷ []) ys i d (map argument_plain old) (map argument_plain new) all (λ e es. refl)
    (subst (λ (zs : List Declarator). i < length zs) same less) (subst (λ (zs : List Declarator). d ≡ get_or zs i d) same is) (pushed_argument old new a _ pushed names) before

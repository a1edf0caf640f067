-- Lines and lists of statements.
use Rattle.std.proofs.Common.{◌≡◌, ℕ, zero, suc, ◌+◌, ◌-◌, ◌<◌, ◌≤◌, List, [], ◌∷◌, length, take, drop, get_or, refl, sym, ap, ◌∙◌, arith}
use Rattle.design.specs.declared.tree.Expression.{Expression}
use Rattle.design.specs.declared.tree.Statement.{Statement}
use Rattle.design.specs.Sound.{IsSoundExpression, AreSoundExpressions, how_many}
use Rattle.design.specs.DesignTrees.{expression_of, expressions_of, statement_of, statements_of}
use Rattle.model.specs.Design as tree
use Rattle.model.specs.Design.{inside}
use Rattle.design.specs.declared.extents.Extent.{Extent}
use Rattle.design.specs.Extents.{AreMeasured, extent_of}
use Rattle.design.specs.Emit.{first_of, next_of}
use Rattle.std.proofs.lemmas.List.{drop_more}
use Rattle.std.proofs.lemmas.Option.{slice_get_within, get_or_from_slice_get}

-- each of sound expressions is sound
pub sound_at : (widths : List ℕ) (es : List Expression) (k : ℕ) (d : Expression) → AreSoundExpressions widths (expressions_of es) → k < length es → IsSoundExpression widths (expression_of (get_or es k d))
sound_at widths [] k d h lt = absurd (omega arith)
sound_at widths (e ∷ es) zero d h lt = h.0
sound_at widths (e ∷ es) (suc k) d h lt = sound_at widths es k d h.1 (omega arith)

-- where there are statements, the first of them stands at the place
pub first_there : (place : ℕ) (ss : List Statement) (after : ℕ) → 1 ≤ length ss → place ≡ first_of place (statements_of ss) after
first_there place [] after h = absurd (omega arith)
first_there place (s ∷ ss) after h = refl

-- the default doesn't matter within a list
get_default : {A : Type 0} → (xs : List A) (i : ℕ) (d e : A) → i < length xs → get_or xs i d ≡ get_or xs i e
get_default [] i d e lt = absurd (omega arith)
get_default (x ∷ xs) zero d e lt = refl
get_default (x ∷ xs) (suc i) d e lt = get_default xs i d e (omega arith)

-- as many expressions as stand in the list
pub how_many_there : (es : List Expression) → how_many (expressions_of es) ≡ length es
how_many_there [] = refl
how_many_there (e ∷ es) = omega (arith, how_many_there es)

-- what is left of a list has the next of them first
pub next_left : {A : Type 0} → (xs : List A) (i : ℕ) (x : A) → i < length xs → x ≡ get_or xs i x → drop i xs ≡ x ∷ drop (i + 1) xs
next_left xs i x lt is = drop_more xs i x lt ∙ ap (λ y. y ∷ drop (i + 1) xs) (sym is)

-- where there are statements, the first of them is in the table
pub first_measured : (table : List Extent) (place : ℕ) (ss : List Statement) → 1 ≤ length ss → AreMeasured table place (statements_of ss) → place < length table
first_measured table place [] some h = absurd (omega arith)
first_measured table place (s ∷ ss) some h = slice_get_within table place (extent_of place (statement_of s)) h.0

whole_of : (place : ℕ) (s : tree.Statement) → (extent_of place s).whole ≡ place + 1 + length (inside s)
whole_of place tree.Empty = refl
whole_of place (tree.Assign r e) = refl
whole_of place (tree.AssignAfter r d e) = refl
whole_of place (tree.AssignLater r d e) = refl
whole_of place (tree.Now r) = refl
whole_of place (tree.Delay d body) = refl
whole_of place (tree.Await triggers body) = refl
whole_of place (tree.If c body otherwise) = refl
whole_of place (tree.While c body) = refl
whole_of place (tree.Print task format arguments) = refl
whole_of place tree.Finish = refl

take_whole : {A : Type 0} → (n : ℕ) (xs : List A) → n ≡ length xs → take n xs ≡ xs
take_whole zero [] e = refl
take_whole zero (x ∷ xs) e = absurd (omega arith)
take_whole (suc n) [] e = absurd (omega arith)
take_whole (suc n) (x ∷ xs) e = ap (λ l. x ∷ l) (take_whole n xs (omega arith))

-- and it leads to where the table says
pub leads_by_table : (table : List Extent) (place : ℕ) (ss : List Statement) (after : ℕ) (blank : Extent) → 1 ≤ length ss → AreMeasured table place (statements_of ss) → first_of (get_or table place blank).whole (statements_of (take (length ss - 1) (drop 1 ss))) after ≡ next_of place (statements_of ss) after
leads_by_table table place [] after blank some h = absurd (omega arith)
leads_by_table table place (s ∷ ss) after blank some h =
    let there : get_or table place blank ≡ extent_of place (statement_of s) = get_or_from_slice_get table place (extent_of place (statement_of s)) blank h.0 in
    let all : take (length (s ∷ ss) - 1) ss ≡ ss = take_whole (length (s ∷ ss) - 1) ss (omega arith) in
    ap (λ w. first_of w (statements_of (take (length (s ∷ ss) - 1) ss)) after) (ap (λ y. y.whole) there ∙ whole_of place (statement_of s))
    ∙ ap (λ l. first_of (place + 1 + length (inside (statement_of s))) (statements_of l) after) all

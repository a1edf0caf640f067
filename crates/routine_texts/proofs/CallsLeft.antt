-- Whether a call stands among the expressions that are left.
use Rattle.std.proofs.Common.{◌≡◌, ℕ, ◌+◌, ◌<◌, ◌≤◌, Bool, true, false, ◌||◌, List, length, get_or, drop, map, Option, is_some, ap, sym, ◌∙◌}
use Rattle.std.proofs.lemmas.List.{at_drop_more, at_drop_all}
use Rattle.syntax_tree.specs.declared.expressions.VerilogExpression.{VerilogExpression}
use Rattle.syntax_tree.specs.Expressions.{plain_expression_of, plain_expressions}
use Rattle.routine_texts.specs.Calls.{calls_in, calls_in_any}

abbrev any_left : List VerilogExpression → Bool
any_left xs = calls_in_any (plain_expressions (map plain_expression_of xs))

-- what is left of some, by its first
one_left : (xs : List VerilogExpression) (i : ℕ) (x : VerilogExpression) → i < length xs → x ≡ get_or xs i x → any_left (drop i xs) ≡ (calls_in (plain_expression_of x) || any_left (drop (i + 1) xs))
one_left xs i x less is = at_drop_more any_left xs i x less ∙ ap (λ y. calls_in (plain_expression_of y) || any_left (drop (i + 1) xs)) (sym is)

-- the next one has no call
pub not_here : (xs : List VerilogExpression) (i : ℕ) (x : VerilogExpression) (r : Bool) (whole : Bool) → i < length xs → x ≡ get_or xs i x → r ≡ calls_in (plain_expression_of x) → r ≡ false → any_left (drop i xs) ≡ whole
    → any_left (drop (i + 1) xs) ≡ whole
not_here xs i x r whole less is tells is_false before = ap (λ b. b || any_left (drop (i + 1) xs)) (sym is_false ∙ tells) ∙ sym (one_left xs i x less is) ∙ before

-- the next one has one
pub call_here : (xs : List VerilogExpression) (i : ℕ) (x : VerilogExpression) (r : Bool) (whole : Bool) → i < length xs → x ≡ get_or xs i x → r ≡ calls_in (plain_expression_of x) → r ≡ true → any_left (drop i xs) ≡ whole → r ≡ whole
call_here xs i x r whole less is tells is_true before = is_true ∙ ap (λ b. b || any_left (drop (i + 1) xs)) (sym is_true ∙ tells) ∙ sym (one_left xs i x less is) ∙ before

-- none is left
pub none_here : (xs : List VerilogExpression) (i : ℕ) (whole : Bool) → length xs ≤ i → any_left (drop i xs) ≡ whole → false ≡ whole
none_here xs i whole past before = sym (at_drop_all any_left xs i past) ∙ before

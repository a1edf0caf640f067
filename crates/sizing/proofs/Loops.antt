-- Parts of a concatenation, one after another.
use Rattle.std.proofs.Common.{◌≡◌, ℕ, ◌+◌, ◌<◌, List, [], ◌∷◌, ◌++◌, map, length, get_or, take, refl, sym, ap, ◌∙◌, append_assoc}
use Rattle.std.proofs.lemmas.List.{take_more}
use Rattle.syntax_tree.specs.declared.expressions.VerilogExpression as program
use Rattle.syntax_tree.specs.Expressions.{plain_expression_of, plain_expressions}
use Rattle.sizing.specs.Names.{Names}
use Rattle.sizing.specs.Meanings.{Meaning, meaning, meanings}

-- what expressions of the program mean
abbrev pub meant : Names → List program.VerilogExpression → List Meaning
meant n xs = meanings n (plain_expressions (map plain_expression_of xs))

meant-append : (n : Names) (xs : List program.VerilogExpression) (x : program.VerilogExpression) → meant n (xs ++ x ∷ []) ≡ meant n xs ++ meaning n (plain_expression_of x) ∷ []
meant-append n [] x = refl
meant-append n (y ∷ xs) x = ap (λ ms. meaning n (plain_expression_of y) ∷ ms) (meant-append n xs x)

taken_more : (xs : List program.VerilogExpression) (i : ℕ) (x : program.VerilogExpression) → i < length xs → x ≡ get_or xs i x → take (i + 1) xs ≡ take i xs ++ x ∷ []
taken_more xs i x h e = take_more xs i x h ∙ ap (λ y. take i xs ++ y ∷ []) (sym e)

pub one_more : (n : Names) (ms : List Meaning) (xs : List program.VerilogExpression) (i : ℕ) (x : program.VerilogExpression) → i < length xs → x ≡ get_or xs i x
    → (ms ++ meant n (take i xs)) ++ meaning n (plain_expression_of x) ∷ [] ≡ ms ++ meant n (take (i + 1) xs)
one_more n ms xs i x h e =
    append_assoc ms (meant n (take i xs)) (meaning n (plain_expression_of x) ∷ [])
    ∙ ap (λ ks. ms ++ ks) (sym (meant-append n (take i xs) x) ∙ ap (meant n) (sym (taken_more xs i x h e)))

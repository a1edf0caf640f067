-- Functions of the time with arguments.
use Rattle.std.proofs.Common.{◌≡◌, ℕ, List, [], ◌∷◌, map, length, ◌==◌, false, refl, sym, ap, ◌∙◌}
use Rattle.syntax_tree.specs.declared.expressions.VerilogExpression as program
use Rattle.syntax_tree.specs.declared.expressions.VerilogExpression.{fold-roll-VerilogExpression}
use Rattle.syntax_tree.specs.declared.expressions.VerilogExpression.TheOpen.{VerilogExpression-F}
use Rattle.syntax_tree.specs.declared.expressions.VerilogExpression.TheVariants as made
use Rattle.syntax_tree.specs.declared.expressions.VerilogExpression.TheVariants.{rolls-SystemCall}
use Rattle.syntax_tree.specs.Expressions as source
use Rattle.syntax_tree.specs.Expressions.{Expression, plain_expression_of, plain_expression_node, plain_expressions}
use Rattle.statement_parts.specs.Times.{is_time}

with_some : (at : ℕ) (name : List ℕ) (es : List program.VerilogExpression) → (length es == 0) ≡ false → is_time (source.SystemCall at name (plain_expressions (map plain_expression_of es))) ≡ false
with_some at name [] h = absurd (cc h)
with_some at name (e ∷ es) h = refl

pub with_arguments : (e : program.VerilogExpression) (at : _) (name : _) (arguments : _) (es : List program.VerilogExpression) → e ≡ made.SystemCall at name arguments → es ≡ arguments.items → (length es == 0) ≡ false → is_time (plain_expression_of e) ≡ false
with_arguments e at name arguments es is same some =
    ap (λ x. is_time (plain_expression_of x)) (is ∙ sym (rolls-SystemCall at name arguments))
    ∙ ap is_time (fold-roll-VerilogExpression Expression plain_expression_node (VerilogExpression-F.SystemCall at name arguments))
    ∙ ap (λ xs. is_time (source.SystemCall at name.items (plain_expressions (map plain_expression_of xs)))) (sym same)
    ∙ with_some at name.items es some

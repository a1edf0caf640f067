-- Expressions that are strings, and those that aren't.
use Rattle.std.proofs.Common.{◌≡◌, sym, ap, ◌∙◌, subst}
use Rattle.syntax_tree.specs.declared.expressions.VerilogExpression as program
use Rattle.syntax_tree.specs.declared.expressions.VerilogExpression.{fold-roll-VerilogExpression, out-VerilogExpression, roll-VerilogExpression, roll-out-VerilogExpression}
use Rattle.syntax_tree.specs.declared.expressions.VerilogExpression.TheOpen.{VerilogExpression-F}
use Rattle.syntax_tree.specs.declared.expressions.VerilogExpression.TheVariants as made
use Rattle.syntax_tree.specs.declared.expressions.VerilogExpression.TheVariants.{rolls-Text}
use Rattle.syntax_tree.specs.Expressions as source
use Rattle.syntax_tree.specs.Expressions.{Expression, plain_expression_of, plain_expression_node}
use Rattle.statement_parts.specs.Statements.{SourceText}
use Rattle.lowering.specs.Prints.{IsValue, IsString}

pub is_text : (e : program.VerilogExpression) (at : _) (bytes : _) (text : SourceText) → e ≡ made.Text at bytes → text ≡ bytes.items → IsString (plain_expression_of e) text
is_text e at bytes text is same =
    (at, ap plain_expression_of (is ∙ sym (rolls-Text at bytes)) ∙ fold-roll-VerilogExpression Expression plain_expression_node (VerilogExpression-F.Text at bytes) ∙ ap (source.Text at) (sym same))

layer_value : (x : VerilogExpression-F program.VerilogExpression) → ((at : _) (bytes : _) → roll-VerilogExpression x ≡ made.Text at bytes → ⊥) → IsValue (plain_expression_of (roll-VerilogExpression x))
layer_value (VerilogExpression-F.Text at bytes) h = absurd (h at bytes (rolls-Text at bytes))
layer_value (VerilogExpression-F.Number a b c d v) h = subst IsValue (sym (fold-roll-VerilogExpression Expression plain_expression_node (VerilogExpression-F.Number a b c d v))) tt
layer_value (VerilogExpression-F.Real a text) h = subst IsValue (sym (fold-roll-VerilogExpression Expression plain_expression_node (VerilogExpression-F.Real a text))) tt
layer_value (VerilogExpression-F.Name a name) h = subst IsValue (sym (fold-roll-VerilogExpression Expression plain_expression_node (VerilogExpression-F.Name a name))) tt
layer_value (VerilogExpression-F.Member a base name) h = subst IsValue (sym (fold-roll-VerilogExpression Expression plain_expression_node (VerilogExpression-F.Member a base name))) tt
layer_value (VerilogExpression-F.Index a base i) h = subst IsValue (sym (fold-roll-VerilogExpression Expression plain_expression_node (VerilogExpression-F.Index a base i))) tt
layer_value (VerilogExpression-F.Part a form base first second) h = subst IsValue (sym (fold-roll-VerilogExpression Expression plain_expression_node (VerilogExpression-F.Part a form base first second))) tt
layer_value (VerilogExpression-F.Call a function parts) h = subst IsValue (sym (fold-roll-VerilogExpression Expression plain_expression_node (VerilogExpression-F.Call a function parts))) tt
layer_value (VerilogExpression-F.SystemCall a name parts) h = subst IsValue (sym (fold-roll-VerilogExpression Expression plain_expression_node (VerilogExpression-F.SystemCall a name parts))) tt
layer_value (VerilogExpression-F.Concatenation a parts) h = subst IsValue (sym (fold-roll-VerilogExpression Expression plain_expression_node (VerilogExpression-F.Concatenation a parts))) tt
layer_value (VerilogExpression-F.Replication a count parts) h = subst IsValue (sym (fold-roll-VerilogExpression Expression plain_expression_node (VerilogExpression-F.Replication a count parts))) tt
layer_value (VerilogExpression-F.Unary a op x) h = subst IsValue (sym (fold-roll-VerilogExpression Expression plain_expression_node (VerilogExpression-F.Unary a op x))) tt
layer_value (VerilogExpression-F.Binary a op x y) h = subst IsValue (sym (fold-roll-VerilogExpression Expression plain_expression_node (VerilogExpression-F.Binary a op x y))) tt
layer_value (VerilogExpression-F.Conditional a x y z) h = subst IsValue (sym (fold-roll-VerilogExpression Expression plain_expression_node (VerilogExpression-F.Conditional a x y z))) tt
layer_value (VerilogExpression-F.Refused a) h = subst IsValue (sym (fold-roll-VerilogExpression Expression plain_expression_node (VerilogExpression-F.Refused a))) tt

pub is_value : (e : program.VerilogExpression) → ((at : _) (bytes : _) → e ≡ made.Text at bytes → ⊥) → IsValue (plain_expression_of e)
is_value e h = subst (λ (x : program.VerilogExpression). IsValue (plain_expression_of x)) (roll-out-VerilogExpression e) (layer_value (out-VerilogExpression e) (λ at bytes is. h at bytes (sym (roll-out-VerilogExpression e) ∙ is)))

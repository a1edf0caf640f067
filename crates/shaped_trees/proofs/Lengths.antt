-- The value of a tree in the core is as wide as the size that is asked.
use Rattle.std.proofs.Common.{◌≡◌, ℕ, List, length, refl, sym, ◌∙◌, arith}
use Rattle.std.proofs.lemmas.List.{length-append}
use Rattle.logic4.specs.declared.digit.Truth.{Truth}
use Rattle.logic4.specs.declared.digit.Truth.TheVariants.{False, True, Unknown}
use Rattle.logic4.specs.Vector.{Vector}
use Rattle.logic4.specs.Operators.{conditional, truth}
use Rattle.logic4.proofs.Lengths.{length-resize, length-each_digit, length-each_pair, length-where_known, length-shl_vector, length-shr_vector}
use Rattle.model.specs.declared.tree.UnaryOperator.{UnaryOperator}
use Rattle.model.specs.declared.tree.UnaryOperator.TheVariants as unary
use Rattle.model.specs.declared.tree.BinaryOperator.{BinaryOperator}
use Rattle.model.specs.declared.tree.BinaryOperator.TheVariants as binary
use Rattle.model.specs.Syntax as tree
use Rattle.model.specs.Syntax.{Expression, Expressions}
use Rattle.model.specs.Expressions.{Store, sizing_of, left_size, right_size, operand_size, own_size, total_size, unary_value, binary_value, eval, joined}

unary_length : (op : UnaryOperator) (asked own : ℕ) (v : Vector) → length v ≡ operand_size op asked own → length (unary_value op asked v) ≡ asked
unary_length unary.Not asked own v e = length-each_digit _ v ∙ e
unary_length unary.LogicalNot asked own v e = length-resize asked _
unary_length unary.ReduceAnd asked own v e = length-resize asked _
unary_length unary.ReduceOr asked own v e = length-resize asked _
unary_length unary.ReduceXor asked own v e = length-resize asked _

binary_length : (op : BinaryOperator) (asked l r : ℕ) (v w : Vector) → length v ≡ left_size (sizing_of op) asked l r → length w ≡ right_size (sizing_of op) asked l r → length (binary_value op asked v w) ≡ asked
binary_length binary.LogicalOr asked l r v w a b = length-resize asked _
binary_length binary.LogicalAnd asked l r v w a b = length-resize asked _
binary_length binary.Or asked l r v w a b = length-each_pair _ v w (a ∙ sym b) ∙ a
binary_length binary.Xor asked l r v w a b = length-each_pair _ v w (a ∙ sym b) ∙ a
binary_length binary.And asked l r v w a b = length-each_pair _ v w (a ∙ sym b) ∙ a
binary_length binary.Equal asked l r v w a b = length-resize asked _
binary_length binary.NotEqual asked l r v w a b = length-resize asked _
binary_length binary.CaseEqual asked l r v w a b = length-resize asked _
binary_length binary.CaseNotEqual asked l r v w a b = length-resize asked _
binary_length binary.Less asked l r v w a b = length-resize asked _
binary_length binary.LessEqual asked l r v w a b = length-resize asked _
binary_length binary.Greater asked l r v w a b = length-resize asked _
binary_length binary.GreaterEqual asked l r v w a b = length-resize asked _
binary_length binary.SignedLess asked l r v w a b = length-resize asked _
binary_length binary.SignedLessEqual asked l r v w a b = length-resize asked _
binary_length binary.ShiftLeft asked l r v w a b = length-shl_vector v w ∙ a
binary_length binary.ShiftRight asked l r v w a b = length-shr_vector v w ∙ a
binary_length binary.Add asked l r v w a b = length-where_known v w _ ∙ a
binary_length binary.Subtract asked l r v w a b = length-where_known v w _ ∙ a

conditional_length : (t : Truth) (n : ℕ) (v w : Vector) → length v ≡ n → length w ≡ n → length (conditional t v w) ≡ n
conditional_length True n v w a b = a
conditional_length False n v w a b = b
conditional_length Unknown n v w a b = length-each_pair _ v w (a ∙ sym b) ∙ a

pub length_eval : (widths : List ℕ) (store : Store) (asked : ℕ) (e : Expression ℕ) → length (eval widths store asked e) ≡ asked
length_eval widths store asked (tree.Register r) = length-resize asked _
length_eval widths store asked (tree.Select r i) = length-resize asked _
length_eval widths store asked (tree.Literal v) = length-resize asked v
length_eval widths store asked (tree.Concat parts) = length-resize asked _
length_eval widths store asked (tree.Unary op e) = unary_length op asked (own_size widths e) _ (length_eval widths store (operand_size op asked (own_size widths e)) e)
length_eval widths store asked (tree.Binary op e f) =
    binary_length op asked (own_size widths e) (own_size widths f) _ _ (length_eval widths store (left_size (sizing_of op) asked (own_size widths e) (own_size widths f)) e) (length_eval widths store (right_size (sizing_of op) asked (own_size widths e) (own_size widths f)) f)
length_eval widths store asked (tree.Conditional c e f) =
    conditional_length (truth (eval widths store (own_size widths c) c)) asked _ _ (length_eval widths store asked e) (length_eval widths store asked f)
length_eval widths store asked (tree.Extend by size e) = length-resize asked _

pub length_joined : (widths : List ℕ) (store : Store) (es : Expressions ℕ) → length (joined widths store es) ≡ total_size widths es
length_joined widths store tree.Nothing = refl
length_joined widths store (tree.Also e es) =
    let all = length-append (joined widths store es) (eval widths store (own_size widths e) e) in
    omega (arith, all, length_joined widths store es, length_eval widths store (own_size widths e) e)

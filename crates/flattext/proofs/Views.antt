-- The plain tree of forms that have expressions inside them.
use Rattle.std.proofs.Common.{◌≡◌, ap, sym, ◌∙◌}
use Rattle.model.specs.Syntax.{Text, Expression, Unary, Binary, Conditional, Extend}
use Rattle.model.specs.SourceTrees.{source_expression_of, source_expression_node}
use Rattle.model.specs.declared.tree.SourceExpression.{SourceExpression, fold-roll-SourceExpression}
use Rattle.model.specs.declared.tree.SourceExpression.TheOpen.{SourceExpression-F}
use Rattle.model.specs.declared.tree.SourceExpression.TheViews as view
use Rattle.model.specs.declared.tree.SourceExpression.TheVariants.{rolls-Unary, rolls-Binary, rolls-Conditional, rolls-Extend}

pub viewed_unary : (e : SourceExpression) (op : _) (operand : _) → e ≡ view.Unary op operand → source_expression_of e ≡ Unary op (source_expression_of operand.value)
viewed_unary e op operand is = ap source_expression_of (is ∙ sym (rolls-Unary op operand)) ∙ fold-roll-SourceExpression (Expression Text) source_expression_node (SourceExpression-F.Unary op operand)

pub viewed_binary : (e : SourceExpression) (op : _) (left right : _) → e ≡ view.Binary op left right → source_expression_of e ≡ Binary op (source_expression_of left.value) (source_expression_of right.value)
viewed_binary e op left right is = ap source_expression_of (is ∙ sym (rolls-Binary op left right)) ∙ fold-roll-SourceExpression (Expression Text) source_expression_node (SourceExpression-F.Binary op left right)

pub viewed_conditional : (e : SourceExpression) (c f s : _) → e ≡ view.Conditional c f s → source_expression_of e ≡ Conditional (source_expression_of c.value) (source_expression_of f.value) (source_expression_of s.value)
viewed_conditional e c f s is = ap source_expression_of (is ∙ sym (rolls-Conditional c f s)) ∙ fold-roll-SourceExpression (Expression Text) source_expression_node (SourceExpression-F.Conditional c f s)

pub viewed_extend : (e : SourceExpression) (by size : _) (operand : _) → e ≡ view.Extend by size operand → source_expression_of e ≡ Extend by size (source_expression_of operand.value)
viewed_extend e by size operand is = ap source_expression_of (is ∙ sym (rolls-Extend by size operand)) ∙ fold-roll-SourceExpression (Expression Text) source_expression_node (SourceExpression-F.Extend by size operand)

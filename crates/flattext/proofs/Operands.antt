-- Operands at the level that their place asks for.
use Rattle.std.proofs.Common.{◌≡◌, ◌∙◌, ap, ℕ, List, ◌++◌}
use Rattle.model.specs.SourceTrees.{source_expression_of}
use Rattle.model.specs.declared.tree.SourceExpression.{SourceExpression}
use Rattle.flattext.specs.Expressions.{expression_text}

-- the text of an operand, by an equal level and an equal expression
pub operand_put : (new text : List ℕ) (m n : ℕ) (e f : SourceExpression) → new ≡ text ++ expression_text m (source_expression_of e) → m ≡ n → e ≡ f → new ≡ text ++ expression_text n (source_expression_of f)
operand_put new text m n e f put level same = put ∙ ap (λ k. text ++ expression_text k (source_expression_of e)) level ∙ ap (λ g. text ++ expression_text n (source_expression_of g)) same

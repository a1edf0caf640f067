-- A tree alone in a concatenation.
use Rattle.std.proofs.Common.{◌≡◌, ℕ, Bool, List, [], ◌∷◌, map, sym, ap, subst, ◌∙◌}
use Rattle.model.specs.Syntax as core
use Rattle.model.specs.Syntax.{Text}
use Rattle.model.specs.declared.tree.SourceExpression as program
use Rattle.model.specs.SourceTrees.{source_expression_of, source_expressions}
use Rattle.shaped_trees.specs.declared.shape.Shape.{Shape}
use Rattle.sizing.specs.Names.{Names}
use Rattle.sizing.specs.Meanings.{Meaning, self_determined_value, alone_meaning}
use Rattle.sizing.specs.Typing.{IsTyped, IsSelfDetermined}
use Rattle.sizing.specs.Parts.{JoinsIn}
use Rattle.sizing.proofs.Joining.{joins_one, typed_converted}

pub one_part : (n : Names) (m : Meaning) (width : ℕ) (first : program.SourceExpression) (others : List program.SourceExpression) → width ≡ m.size
    → IsSelfDetermined n m (source_expression_of first) → others ≡ []
    → JoinsIn n (m ∷ []) width (core.Also (source_expression_of first) (source_expressions (map source_expression_of others)))
one_part n m width first others h s e =
    subst (λ (es : List program.SourceExpression). JoinsIn n (m ∷ []) width (core.Also (source_expression_of first) (source_expressions (map source_expression_of es)))) (sym e)
    (joins_one n m width (source_expression_of first) h s)

pub converted_part : (n : Names) (m : Meaning) (signed : Bool) (shape : Shape) (operand : program.SourceExpression) (others : List program.SourceExpression) (tree : core.Expression Text)
    → IsSelfDetermined n m (source_expression_of operand) → shape.width ≡ m.size → shape.signed ≡ signed → others ≡ []
    → tree ≡ core.Concat (core.Also (source_expression_of operand) (source_expressions (map source_expression_of others)))
    → IsTyped n (alone_meaning m.size signed (self_determined_value m)) shape tree
converted_part n m signed shape operand others tree s width sign none e =
    let alone_in : tree ≡ core.Concat (core.Also (source_expression_of operand) core.Nothing) =
    e ∙ ap (λ es. core.Concat (core.Also (source_expression_of operand) (source_expressions (map source_expression_of es)))) none in
    subst (IsTyped n (alone_meaning m.size signed (self_determined_value m)) shape) (sym alone_in) (typed_converted n m signed shape (source_expression_of operand) width sign s)

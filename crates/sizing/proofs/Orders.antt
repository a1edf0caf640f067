-- Comparisons, by what both operands are at their common size and sign.
use Rattle.std.proofs.Common.{◌≡◌, ℕ, Bool, true, false, sym, ◌∙◌}
use Rattle.logic4.specs.declared.digit.Digit.{Digit}
use Rattle.logic4.specs.Vector.{Vector}
use Rattle.model.specs.declared.tree.BinaryOperator.{BinaryOperator}
use Rattle.model.specs.Syntax as core
use Rattle.model.specs.Syntax.{Text}
use Rattle.shaped_trees.specs.declared.shape.Shape.{Shape}
use Rattle.shaped_trees.specs.Trees.{Values}
use Rattle.sizing.specs.Names.{Names}
use Rattle.sizing.specs.Meanings as meaning
use Rattle.sizing.specs.Meanings.{Meaning, one_digit_meaning, common_shape}
use Rattle.sizing.specs.Typing.{IsTyped, AreOperands, comparison}
use Rattle.sizing.proofs.Trees.{typed_ordered, swapped}

with_signs : (n : Names) (m k : Meaning) (S P : Vector → Vector → Digit) (b : Bool) (shape : Shape) (tree : core.Expression Text) → b ≡ true → b ≡ (common_shape m k).signed
    → IsTyped n (one_digit_meaning (λ values. S (m.value values (common_shape m k)) (k.value values (common_shape m k)))) shape tree
    → IsTyped n (meaning.compared (meaning.ordered S P) m k) shape tree
with_signs n m k S P b shape tree is sign t = typed_ordered n m k shape tree S P true (sym is ∙ sign) t

without_signs : (n : Names) (m k : Meaning) (S P : Vector → Vector → Digit) (b : Bool) (shape : Shape) (tree : core.Expression Text) → b ≡ false → b ≡ (common_shape m k).signed
    → IsTyped n (one_digit_meaning (λ values. P (m.value values (common_shape m k)) (k.value values (common_shape m k)))) shape tree
    → IsTyped n (meaning.compared (meaning.ordered S P) m k) shape tree
without_signs n m k S P b shape tree is sign t = typed_ordered n m k shape tree S P false (sym is ∙ sign) t

-- both operands stand for the values of two expressions at their common size and sign, as soon as their trees stand for these
abbrev pub AtCommon : Shape → Shape → core.Expression Text → core.Expression Text → core.Expression Text → core.Expression Text → Type 0
AtCommon own other t u left right =
    (n : Names) (m k : Meaning) → IsTyped n m own t → IsTyped n k other u
    → AreOperands n (common_shape m k).width (λ values. m.value values (common_shape m k)) (λ values. k.value values (common_shape m k)) left right

-- so is their sign
abbrev pub HasSign : Shape → Shape → core.Expression Text → core.Expression Text → Bool → Type 0
HasSign own other t u b = (n : Names) (m k : Meaning) → IsTyped n m own t → IsTyped n k other u → b ≡ (common_shape m k).signed

-- a tree compares two operands
abbrev pub Compares : BinaryOperator → core.Expression Text → core.Expression Text → Shape → core.Expression Text → Type 0
Compares op left right shape tree =
    (n : Names) (width : ℕ) (v w : Values → Vector) → AreOperands n width v w left right → IsTyped n (one_digit_meaning (λ values. comparison op (v values) (w values))) shape tree

module _ (n : Names) (m k : Meaning) (own other : Shape) (t u left right : core.Expression Text) (b : Bool) (shape : Shape) (tree : core.Expression Text)
    (h : IsTyped n m own t) (g : IsTyped n k other u) (sign : HasSign own other t u b) (values : AtCommon own other t u left right) where
  pub equal_told : (op : BinaryOperator) → Compares op left right shape tree → IsTyped n (meaning.compared (λ signed. comparison op) m k) shape tree
  equal_told op told = told n (common_shape m k).width (λ vs. m.value vs (common_shape m k)) (λ vs. k.value vs (common_shape m k)) (values n m k h g)

  pub less_signed : (op plain : BinaryOperator) → b ≡ true → Compares op left right shape tree
      → IsTyped n (meaning.compared (meaning.ordered (comparison op) (comparison plain)) m k) shape tree
  less_signed op plain is told =
      with_signs n m k (comparison op) (comparison plain) b shape tree is (sign n m k h g)
      (told n (common_shape m k).width (λ vs. m.value vs (common_shape m k)) (λ vs. k.value vs (common_shape m k)) (values n m k h g))

  pub order_plain : (S : Vector → Vector → Digit) (plain : BinaryOperator) → b ≡ false → Compares plain left right shape tree
      → IsTyped n (meaning.compared (meaning.ordered S (comparison plain)) m k) shape tree
  order_plain S plain is told =
      without_signs n m k S (comparison plain) b shape tree is (sign n m k h g)
      (told n (common_shape m k).width (λ vs. m.value vs (common_shape m k)) (λ vs. k.value vs (common_shape m k)) (values n m k h g))

  pub greater_signed : (op plain : BinaryOperator) → b ≡ true → Compares op right left shape tree
      → IsTyped n (meaning.compared (meaning.ordered (λ v w. comparison op w v) (comparison plain)) m k) shape tree
  greater_signed op plain is told =
      with_signs n m k (λ v w. comparison op w v) (comparison plain) b shape tree is (sign n m k h g)
      (told n (common_shape m k).width (λ vs. k.value vs (common_shape m k)) (λ vs. m.value vs (common_shape m k)) (swapped (values n m k h g)))

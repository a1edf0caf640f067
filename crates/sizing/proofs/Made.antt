-- The trees that the functions make, told by equations, stand for the meanings of operations.
use Rattle.std.proofs.Common.{◌≡◌, ℕ, ◌≤◌, max, Bool, false, ◌&&◌, length, sym, ap, subst, ◌∙◌, arith}
use Rattle.logic4.specs.Vector.{Vector, vector}
use Rattle.logic4.specs.Operators.{not_digit, not_vector}
use Rattle.model.specs.declared.tree.UnaryOperator.{UnaryOperator}
use Rattle.model.specs.declared.tree.UnaryOperator.TheVariants.{Not, LogicalNot}
use Rattle.model.specs.declared.tree.BinaryOperator.{BinaryOperator}
use Rattle.model.specs.declared.tree.BinaryOperator.TheVariants.{Subtract}
use Rattle.model.specs.Syntax as core
use Rattle.model.specs.Syntax.{Text}
use Rattle.model.specs.Expressions.{BothAsked, LeftAsked, Greatest, EachOwn, sizing_of, binary_value}
use Rattle.shaped_trees.specs.declared.shape.Shape.{Shape}
use Rattle.shaped_trees.specs.Trees.{Values}
use Rattle.sizing.specs.Names.{Names}
use Rattle.sizing.specs.Meanings as meaning
use Rattle.sizing.specs.Meanings.{Meaning, alone_meaning, one_digit_meaning, common_shape}
use Rattle.shaped_trees.specs.Trees.{widened}
use Rattle.sizing.specs.Typing.{IsTyped, IsLowered, IsSelfDetermined, AreOperands, joined_shape, IsReduction, reduction, comparison, decision}
use Rattle.sizing.proofs.Trees.{self_determined, lowered_at, typed_not, typed_minus, typed_reduced, typed_inverted, typed_both, typed_chosen, typed_operands, typed_shifted, swapped, typed_compared, typed_decided}
use Rattle.sizing.proofs.Selections.{typed_literal}

-- a tree that is another one stands for what that stands for
pub with_tree : {n : Names} {m : Meaning} {shape : Shape} {t tree : core.Expression Text} → IsTyped n m shape t → tree ≡ t → IsTyped n m shape tree
with_tree {n} {m} {shape} {t} {tree} h e = subst (IsTyped n m shape) (sym e) h

pub made_literal : (n : Names) (signed : Bool) (v : Vector) (shape : Shape) (tree : core.Expression Text) → shape.width ≡ length v → shape.signed ≡ signed
    → tree ≡ core.Literal v → IsTyped n (alone_meaning (length v) signed (λ values. v)) shape tree
made_literal n signed v shape tree width sign e = with_tree (typed_literal n signed v shape width sign) e

pub made_alone : (n : Names) (m : Meaning) (shape : Shape) (t made : core.Expression Text) → IsTyped n m shape t → made ≡ widened shape t → IsSelfDetermined n m made
made_alone n m shape t made h e = subst (IsSelfDetermined n m) (sym e) (self_determined n m shape t h)

pub made_lowered : (n : Names) (m : Meaning) (shape around : Shape) (s : Shape) (t made : core.Expression Text) → IsTyped n m shape t
    → s.width ≡ max shape.width around.width → s.signed ≡ (shape.signed && around.signed) → made ≡ widened s t → IsLowered n m (joined_shape shape around) made
made_lowered n m shape around s t made h width sign e =
    let same : s ≡ joined_shape shape around = λ i. record { width = width i; signed = sign i } in
    subst (λ (a : Shape). IsLowered n m a made) same (subst (IsLowered n m s) (sym e) (lowered_at n m shape t h s (omega (arith, width, h.size))))

pub made_not : (n : Names) (m : Meaning) (shape : Shape) (t tree : core.Expression Text) → IsTyped n m shape t → tree ≡ core.Unary Not t
    → IsTyped n (meaning.each_of (λ width v. not_vector v) m) shape tree
made_not n m shape t tree h e = with_tree (typed_not n m shape t h) e

pub made_minus : (n : Names) (m : Meaning) (shape : Shape) (t nought tree : core.Expression Text) → IsTyped n m shape t → 1 ≤ shape.width
    → nought ≡ core.Literal (vector shape.width 0) → tree ≡ core.Binary Subtract nought t → IsTyped n (meaning.each_of meaning.negated m) shape tree
made_minus n m shape t nought tree h some z e = with_tree (typed_minus n m shape t h some) (e ∙ ap (λ a. core.Binary Subtract a t) z)

pub made_reduced : (n : Names) (m : Meaning) (op : UnaryOperator) (shape : Shape) (made tree : core.Expression Text) → IsSelfDetermined n m made → IsReduction op
    → tree ≡ core.Unary op made → shape.width ≡ 1 → shape.signed ≡ false → IsTyped n (meaning.reduced (reduction op) m) shape tree
made_reduced n m op shape made tree h r e one plain = with_tree (typed_reduced n m made h op r shape one plain) e

pub made_inverted : (n : Names) (m : Meaning) (op : UnaryOperator) (shape : Shape) (made inner tree : core.Expression Text) → IsSelfDetermined n m made → IsReduction op
    → inner ≡ core.Unary op made → tree ≡ core.Unary LogicalNot inner → shape.width ≡ 1 → shape.signed ≡ false
    → IsTyped n (meaning.reduced (λ v. not_digit (reduction op v)) m) shape tree
made_inverted n m op shape made inner tree h r i e one plain = with_tree (typed_inverted n m made h op r shape one plain) (e ∙ ap (core.Unary LogicalNot) i)

pub made_both : (n : Names) (m k : Meaning) (op : BinaryOperator) (shape other joined : Shape) (left right tree : core.Expression Text)
    → IsTyped n m shape left → IsTyped n k other right → sizing_of op ≡ BothAsked → joined.width ≡ max shape.width other.width
    → joined.signed ≡ (shape.signed && other.signed) → tree ≡ core.Binary op left right → IsTyped n (meaning.both_of (binary_value op 0) m k) joined tree
made_both n m k op shape other joined left right tree t u h width sign e = with_tree (typed_both n m k shape other left right t u op h joined width sign) e

pub made_shifted : (n : Names) (m k : Meaning) (op : BinaryOperator) (shape : Shape) (left by tree : core.Expression Text)
    → IsTyped n m shape left → IsSelfDetermined n k by → sizing_of op ≡ LeftAsked → tree ≡ core.Binary op left by
    → IsTyped n (meaning.shifted (binary_value op 0) m k) shape tree
made_shifted n m k op shape left by tree t s h e = with_tree (typed_shifted n m k shape left by t s op h) e

pub made_operands : (n : Names) (m k : Meaning) (shape other s : Shape) (t u left right : core.Expression Text) → IsTyped n m shape t → IsTyped n k other u
    → s.width ≡ max shape.width other.width → s.signed ≡ (shape.signed && other.signed) → left ≡ widened s t → right ≡ widened s u
    → AreOperands n (common_shape m k).width (λ values. m.value values (common_shape m k)) (λ values. k.value values (common_shape m k)) left right
made_operands n m k shape other s t u left right p q width sign a b =
    let both = typed_operands n m k shape other t u p q s (width ∙ (λ i. max (p.size i) (q.size i))) (sign ∙ (λ i. p.sign i && q.sign i)) in
    subst (λ (x : core.Expression Text). AreOperands n (common_shape m k).width (λ values. m.value values (common_shape m k)) (λ values. k.value values (common_shape m k)) x right) (sym a)
    (subst (λ (y : core.Expression Text). AreOperands n (common_shape m k).width (λ values. m.value values (common_shape m k)) (λ values. k.value values (common_shape m k)) (widened s t) y) (sym b) both)

pub common_sign : (n : Names) (m k : Meaning) (shape other s : Shape) (t u : core.Expression Text) → IsTyped n m shape t → IsTyped n k other u
    → s.signed ≡ (shape.signed && other.signed) → s.signed ≡ (common_shape m k).signed
common_sign n m k shape other s t u p q sign = sign ∙ (λ i. p.sign i && q.sign i)

pub made_compared : (n : Names) (op : BinaryOperator) (shape : Shape) (w : ℕ) (V W : Values → Vector) (left right tree : core.Expression Text)
    → AreOperands n w V W left right → sizing_of op ≡ Greatest → tree ≡ core.Binary op left right → shape.width ≡ 1 → shape.signed ≡ false
    → IsTyped n (one_digit_meaning (λ values. comparison op (V values) (W values))) shape tree
made_compared n op shape w V W left right tree o h e one plain = with_tree (typed_compared n op left right shape one plain h w V W o) e

pub made_decided : (n : Names) (op : BinaryOperator) (m k : Meaning) (shape : Shape) (left right tree : core.Expression Text)
    → IsSelfDetermined n m left → IsSelfDetermined n k right → sizing_of op ≡ EachOwn → tree ≡ core.Binary op left right → shape.width ≡ 1 → shape.signed ≡ false
    → IsTyped n (meaning.decided (decision op) m k) shape tree
made_decided n op m k shape left right tree s t h e one plain = with_tree (typed_decided n op left right shape one plain h m k s t) e

pub made_chosen : (n : Names) (c m k : Meaning) (shape other joined : Shape) (test left right tree : core.Expression Text)
    → IsSelfDetermined n c test → IsTyped n m shape left → IsTyped n k other right → joined.width ≡ max shape.width other.width
    → joined.signed ≡ (shape.signed && other.signed) → tree ≡ core.Conditional test left right → IsTyped n (meaning.chosen_meaning c m k) joined tree
made_chosen n c m k shape other joined test left right tree s t u width sign e = with_tree (typed_chosen n m k shape other left right t u c test s joined width sign) e

pub same_literal : (n : Names) (signed : Bool) (v w : Vector) (shape : Shape) (tree : core.Expression Text) → v ≡ w
    → IsTyped n (alone_meaning (length v) signed (λ values. v)) shape tree → IsTyped n (alone_meaning (length w) signed (λ values. w)) shape tree
same_literal n signed v w shape tree e t = subst (λ (u : Vector). IsTyped n (alone_meaning (length u) signed (λ values. u)) shape tree) e t

-- the rules of these, for the functions that make trees
pub ruleset made_rules = (made_literal, same_literal, made_alone, made_lowered, made_not, made_minus, made_reduced, made_inverted, made_both, made_shifted, made_operands, common_sign, made_compared, made_decided, made_chosen, swapped)

-- Trees that stand for the meanings of operations, from those that stand for the meanings of their operands.
use Rattle.std.proofs.Common.{◌≡◌, ℕ, ◌≤◌, max, Bool, true, false, ◌&&◌, [], ◌∷◌, length, refl, sym, ap, subst, ◌∙◌, arith}
use Rattle.logic4.specs.declared.digit.Digit.{Digit}
use Rattle.logic4.specs.declared.digit.Digit.TheVariants.{Zero, One, X, Z}
use Rattle.logic4.specs.declared.digit.Extension.TheVariants.{Sign}
use Rattle.logic4.specs.Vector.{Vector, vector, resize}
use Rattle.logic4.specs.Extensions.{extend_vector}
use Rattle.logic4.specs.Operators.{each_pair, not_digit, xor_digit, not_vector, xor_vector, truth, logical_not, conditional, sub_vector}
use Rattle.model.specs.declared.tree.UnaryOperator.{UnaryOperator}
use Rattle.model.specs.declared.tree.UnaryOperator.TheVariants.{Not, LogicalNot, ReduceAnd, ReduceOr, ReduceXor}
use Rattle.model.specs.declared.tree.BinaryOperator.{BinaryOperator}
use Rattle.model.specs.declared.tree.BinaryOperator.TheVariants.{LogicalOr, LogicalAnd, Or, Xor, And, Equal, NotEqual, CaseEqual, CaseNotEqual, Less, LessEqual, Greater, GreaterEqual, SignedLess, SignedLessEqual, ShiftLeft, ShiftRight, Add, Subtract}
use Rattle.model.specs.Syntax as core
use Rattle.model.specs.Syntax.{Text}
use Rattle.model.specs.Expressions.{Sizing, BothAsked, LeftAsked, Greatest, EachOwn, sizing_of, result_size, left_size, right_size, binary_value}
use Rattle.shaped_trees.specs.declared.shape.Shape.{Shape}
use Rattle.shaped_trees.specs.Trees.{Values}
use Rattle.sizing.specs.Names.{Names}
use Rattle.sizing.specs.Meanings as meaning
use Rattle.sizing.specs.Meanings.{Meaning, self_determined_value, extended, extended_by, one_digit_meaning, common_shape, xnor_digit}
use Rattle.shaped_trees.specs.Trees.{Registers, values_of, size_in, tree_value, adapted_binary, adapted, filled, operand_at, widened_by, widened}
use Rattle.sizing.specs.Typing.{HasObjectWidths, IsWide, IsTyped, IsLowered, IsSelfDetermined, AreOperands, IsReduction, reduction, comparison, decision}
use Rattle.logic4.proofs.Lengths.{length-vector}
use Rattle.shaped_trees.proofs.Widened.{IsBetween, fits-widened, size-widened}
use Rattle.shaped_trees.proofs.Extension.{resize_same, resize-extended, zeros_resized, zeros_extended}

-- ---- trees of which no operand has the size of what stands around them

-- a tree that is an operand as a whole, and no number that fills up a size
pub record IsWhole (tree : core.Expression Text) : Type 0 where
  pub whole : (change : core.Expression Text → core.Expression Text) → adapted change tree ≡ change tree
  pub kept : (w : ℕ) → filled w tree ≡ tree

module _ (n : Names) (m : Meaning) (V : Values → Vector) (shape : Shape) (tree : core.Expression Text)
    (size : shape.width ≡ m.size) (sign : shape.signed ≡ m.signed)
    (is : (values : Values) (s : Shape) → m.value values s ≡ extended s (V values))
    (whole : IsWhole tree)
    (own : (r : Registers) → HasObjectWidths n r tree → size_in r tree ≡ shape.width)
    (eval_is : (r : Registers) → HasObjectWidths n r tree → (asked : ℕ) → tree_value r asked tree ≡ resize asked (V (values_of r)))
    (long : (r : Registers) → HasObjectWidths n r tree → length (V (values_of r)) ≡ shape.width) where
  alone_at : (r : Registers) → HasObjectWidths n r tree → (b : Bool) (w : ℕ) → tree_value r w (widened_by b w tree) ≡ extended_by b w (V (values_of r))
  alone_at r f false w = ap (tree_value r w) (whole.whole (operand_at false w) ∙ whole.kept w) ∙ eval_is r f w
  alone_at r f true w =
      let digits : tree_value r (size_in r tree) tree ≡ V (values_of r) =
      eval_is r f (size_in r tree) ∙ resize_same (size_in r tree) (V (values_of r)) (long r f ∙ sym (own r f)) in
      ap (tree_value r w) (whole.whole (operand_at true w)) ∙ ap (λ v. resize w (extend_vector Sign w v)) digits ∙ resize-extended w (V (values_of r))

  pub typed_alone : IsTyped n m shape tree
  typed_alone = record {
    size = size;
    sign = sign;
    own = own;
    value = λ r f s. alone_at r f s.signed s.width ∙ sym (is (values_of r) s);
  }

-- ---- operands

module _ (n : Names) (m : Meaning) (shape : Shape) (tree : core.Expression Text) (t : IsTyped n m shape tree) where
  size_by : (r : Registers) → HasObjectWidths n r tree → (b : Bool) (w : ℕ) → shape.width ≤ w → (shape.width ≤ size_in r (widened_by b w tree)) × (size_in r (widened_by b w tree) ≤ w)
  size_by r f b w h =
      let own = t.own r f in
      let between : IsBetween r w tree (widened_by b w tree) = size-widened r b w tree (omega (arith, h, own)) in
      (omega (arith, between.0, own), between.1)

  own_by : (r : Registers) → HasObjectWidths n r tree → (b : Bool) → size_in r (widened_by b shape.width tree) ≡ shape.width
  own_by r f b = let bounds = size_by r f b shape.width (omega arith) in omega (arith, bounds.0, bounds.1)

  -- a tree at its own size and sign
  pub self_determined : IsSelfDetermined n m (widened shape tree)
  self_determined = record {
    size = λ r f. own_by r (fits-widened (IsWide n r) shape.signed shape.width tree f) shape.signed ∙ t.size;
    value = λ r f.
        subst (λ (k : ℕ). tree_value r k (widened shape tree) ≡ m.value (values_of r) shape) t.size (t.value r (fits-widened (IsWide n r) shape.signed shape.width tree f) shape)
        ∙ (λ i. m.value (values_of r) (record { width = t.size i; signed = t.sign i }));
  }

  pub lowered_at : (s : Shape) → m.size ≤ s.width → IsLowered n m s (widened s tree)
  lowered_at s h = record {
    least = λ r f.
        let bounds = size_by r (fits-widened (IsWide n r) s.signed s.width tree f) s.signed s.width (omega (arith, h, t.size)) in
        omega (arith, bounds.0, t.size);
    most = λ r f. (size_by r (fits-widened (IsWide n r) s.signed s.width tree f) s.signed s.width (omega (arith, h, t.size))).1;
    value = λ r f. t.value r (fits-widened (IsWide n r) s.signed s.width tree f) s;
  }

-- ---- operators before an operand

module _ (n : Names) (m : Meaning) (shape : Shape) (tree : core.Expression Text) (t : IsTyped n m shape tree) where
  not_at : (r : Registers) (b : Bool) (w : ℕ) → tree_value r w (widened_by b w (core.Unary Not tree)) ≡ not_vector (tree_value r w (widened_by b w tree))
  not_at r b w = refl

  pub typed_not : IsTyped n (meaning.each_of (λ width v. not_vector v) m) shape (core.Unary Not tree)
  typed_not = record {
    size = t.size;
    sign = t.sign;
    own = t.own;
    value = λ r f s. not_at r s.signed s.width ∙ ap not_vector (t.value r f s);
  }

  minus_at : (r : Registers) → (b : Bool) (w : ℕ) → 1 ≤ shape.width
      → tree_value r w (widened_by b w (core.Binary Subtract (core.Literal (vector shape.width 0)) tree)) ≡ sub_vector (vector w 0) (tree_value r w (widened_by b w tree))
  minus_at r false w some = ap (λ v. sub_vector v (tree_value r w (widened_by false w tree))) (zeros_resized w shape.width)
  minus_at r true w some =
      let own : resize (length (vector shape.width 0)) (vector shape.width 0) ≡ vector shape.width 0 = resize_same (length (vector shape.width 0)) (vector shape.width 0) refl in
      let nought : resize w (extend_vector Sign w (resize (length (vector shape.width 0)) (vector shape.width 0))) ≡ vector w 0 =
      ap (λ v. resize w (extend_vector Sign w v)) own ∙ resize-extended w (vector shape.width 0) ∙ zeros_extended w shape.width some in
      ap (λ v. sub_vector v (tree_value r w (widened_by true w tree))) nought

  pub typed_minus : 1 ≤ shape.width → IsTyped n (meaning.each_of meaning.negated m) shape (core.Binary Subtract (core.Literal (vector shape.width 0)) tree)
  typed_minus some = record {
    size = t.size;
    sign = t.sign;
    own = λ r f. let own = t.own r f.1 in omega (arith, own, length-vector shape.width 0);
    value = λ r f s. minus_at r s.signed s.width some ∙ ap (sub_vector (vector s.width 0)) (t.value r f.1 s);
  }

-- the complement of one digit
inverse_digit : (d : Digit) → logical_not (d ∷ []) ≡ not_digit d
inverse_digit Zero = refl
inverse_digit One = refl
inverse_digit X = refl
inverse_digit Z = refl

whole-reduction : (op : UnaryOperator) → IsReduction op → (made : core.Expression Text) → IsWhole (core.Unary op made)
whole-reduction Not h made = absurd h
whole-reduction LogicalNot h made = record { whole = λ change. refl; kept = λ w. refl }
whole-reduction ReduceAnd h made = record { whole = λ change. refl; kept = λ w. refl }
whole-reduction ReduceOr h made = record { whole = λ change. refl; kept = λ w. refl }
whole-reduction ReduceXor h made = record { whole = λ change. refl; kept = λ w. refl }

size-reduction : (op : UnaryOperator) → IsReduction op → (r : Registers) (made : core.Expression Text) → size_in r (core.Unary op made) ≡ 1
size-reduction Not h r made = absurd h
size-reduction LogicalNot h r made = refl
size-reduction ReduceAnd h r made = refl
size-reduction ReduceOr h r made = refl
size-reduction ReduceXor h r made = refl

value-reduction : (op : UnaryOperator) → IsReduction op → (r : Registers) (made : core.Expression Text) (asked : ℕ)
    → tree_value r asked (core.Unary op made) ≡ resize asked (reduction op (tree_value r (size_in r made) made) ∷ [])
value-reduction Not h r made asked = absurd h
value-reduction LogicalNot h r made asked = refl
value-reduction ReduceAnd h r made asked = refl
value-reduction ReduceOr h r made asked = refl
value-reduction ReduceXor h r made asked = refl

module _ (n : Names) (m : Meaning) (made : core.Expression Text) (s : IsSelfDetermined n m made) where
  pub own_digits : (r : Registers) → HasObjectWidths n r made → tree_value r (size_in r made) made ≡ self_determined_value m (values_of r)
  own_digits r f = ap (λ k. tree_value r k made) (s.size r f) ∙ s.value r f

  module _ (op : UnaryOperator) (h : IsReduction op) (shape : Shape) (one : shape.width ≡ 1) (plain : shape.signed ≡ false) where
    pub typed_reduced : IsTyped n (meaning.reduced (reduction op) m) shape (core.Unary op made)
    typed_reduced =
        typed_alone n (meaning.reduced (reduction op) m) (λ values. reduction op (self_determined_value m values) ∷ []) shape (core.Unary op made) one plain (λ values s'. refl)
        (whole-reduction op h made)
        (λ r f. size-reduction op h r made ∙ sym one)
        (λ r f asked. value-reduction op h r made asked ∙ ap (λ v. resize asked (reduction op v ∷ [])) (own_digits r f))
        (λ r f. sym one)

    pub typed_inverted : IsTyped n (meaning.reduced (λ v. not_digit (reduction op v)) m) shape (core.Unary LogicalNot (core.Unary op made))
    typed_inverted =
        typed_alone n (meaning.reduced (λ v. not_digit (reduction op v)) m) (λ values. not_digit (reduction op (self_determined_value m values)) ∷ []) shape
        (core.Unary LogicalNot (core.Unary op made)) one plain (λ values s'. refl)
        (record { whole = λ change. refl; kept = λ w. refl })
        (λ r f. sym one)
        (λ r f asked.
        let inner : tree_value r (size_in r (core.Unary op made)) (core.Unary op made) ≡ reduction op (self_determined_value m (values_of r)) ∷ [] =
        ap (λ k. tree_value r k (core.Unary op made)) (size-reduction op h r made) ∙ value-reduction op h r made 1
        ∙ ap (λ v. resize 1 (reduction op v ∷ [])) (own_digits r f) in
        ap (λ v. resize asked (logical_not v ∷ [])) inner ∙ ap (λ d. resize asked (d ∷ [])) (inverse_digit (reduction op (self_determined_value m (values_of r)))))
        (λ r f. sym one)

-- ---- operators between operands

-- an operator whose value is as wide as its left operand
abbrev IsPlain : Sizing → Type 0
IsPlain BothAsked = Unit {0}
IsPlain LeftAsked = Unit {0}
IsPlain Greatest = ⊥
IsPlain EachOwn = ⊥

plain_value : (op : BinaryOperator) (w : ℕ) (v u : Vector) → IsPlain (sizing_of op) → binary_value op w v u ≡ binary_value op 0 v u
plain_value Or w v u h = refl
plain_value Xor w v u h = refl
plain_value And w v u h = refl
plain_value Add w v u h = refl
plain_value Subtract w v u h = refl
plain_value ShiftLeft w v u h = refl
plain_value ShiftRight w v u h = refl
plain_value LogicalOr w v u h = absurd h
plain_value LogicalAnd w v u h = absurd h
plain_value Equal w v u h = absurd h
plain_value NotEqual w v u h = absurd h
plain_value CaseEqual w v u h = absurd h
plain_value CaseNotEqual w v u h = absurd h
plain_value Less w v u h = absurd h
plain_value LessEqual w v u h = absurd h
plain_value Greater w v u h = absurd h
plain_value GreaterEqual w v u h = absurd h
plain_value SignedLess w v u h = absurd h
plain_value SignedLessEqual w v u h = absurd h

-- an operator that compares
abbrev IsComparing : Sizing → Type 0
IsComparing Greatest = Unit {0}
IsComparing BothAsked = ⊥
IsComparing LeftAsked = ⊥
IsComparing EachOwn = ⊥

compared_value : (op : BinaryOperator) (w : ℕ) (v u : Vector) → IsComparing (sizing_of op) → binary_value op w v u ≡ resize w (comparison op v u ∷ [])
compared_value Equal w v u h = refl
compared_value NotEqual w v u h = refl
compared_value CaseEqual w v u h = refl
compared_value CaseNotEqual w v u h = refl
compared_value Less w v u h = refl
compared_value LessEqual w v u h = refl
compared_value Greater w v u h = refl
compared_value GreaterEqual w v u h = refl
compared_value SignedLess w v u h = refl
compared_value SignedLessEqual w v u h = refl
compared_value Or w v u h = absurd h
compared_value Xor w v u h = absurd h
compared_value And w v u h = absurd h
compared_value Add w v u h = absurd h
compared_value Subtract w v u h = absurd h
compared_value ShiftLeft w v u h = absurd h
compared_value ShiftRight w v u h = absurd h
compared_value LogicalOr w v u h = absurd h
compared_value LogicalAnd w v u h = absurd h

-- an operator that takes each operand on its own
abbrev IsDeciding : Sizing → Type 0
IsDeciding EachOwn = Unit {0}
IsDeciding BothAsked = ⊥
IsDeciding LeftAsked = ⊥
IsDeciding Greatest = ⊥

decided_value : (op : BinaryOperator) (w : ℕ) (v u : Vector) → IsDeciding (sizing_of op) → binary_value op w v u ≡ resize w (decision op v u ∷ [])
decided_value LogicalOr w v u h = refl
decided_value LogicalAnd w v u h = refl
decided_value Equal w v u h = absurd h
decided_value NotEqual w v u h = absurd h
decided_value CaseEqual w v u h = absurd h
decided_value CaseNotEqual w v u h = absurd h
decided_value Less w v u h = absurd h
decided_value LessEqual w v u h = absurd h
decided_value Greater w v u h = absurd h
decided_value GreaterEqual w v u h = absurd h
decided_value SignedLess w v u h = absurd h
decided_value SignedLessEqual w v u h = absurd h
decided_value Or w v u h = absurd h
decided_value Xor w v u h = absurd h
decided_value And w v u h = absurd h
decided_value Add w v u h = absurd h
decided_value Subtract w v u h = absurd h
decided_value ShiftLeft w v u h = absurd h
decided_value ShiftRight w v u h = absurd h

-- the value of an operator, by how it takes its operands
abbrev by_sizing : Registers → ℕ → BinaryOperator → core.Expression Text → core.Expression Text → Sizing → Vector
by_sizing r w op e f s =
    binary_value op w (tree_value r (left_size s w (size_in r e) (size_in r f)) e) (tree_value r (right_size s w (size_in r e) (size_in r f)) f)

module _ (n : Names) (m k : Meaning) (shape other : Shape) (left right : core.Expression Text)
    (t : IsTyped n m shape left) (u : IsTyped n k other right) where
  module _ (op : BinaryOperator) (h : sizing_of op ≡ BothAsked) where
    both_at : (r : Registers) (b : Bool) (w : ℕ) → tree_value r w (widened_by b w (core.Binary op left right)) ≡ binary_value op w (tree_value r w (widened_by b w left)) (tree_value r w (widened_by b w right))
    both_at r b w =
        ap (λ s. tree_value r w (adapted_binary (operand_at b w) s op left right (widened_by b w left) (widened_by b w right))) h
        ∙ ap (by_sizing r w op (widened_by b w left) (widened_by b w right)) h

    pub typed_both : (joined : Shape) → joined.width ≡ max shape.width other.width → joined.signed ≡ (shape.signed && other.signed)
        → IsTyped n (meaning.both_of (binary_value op 0) m k) joined (core.Binary op left right)
    typed_both joined width signed = record {
      size = width ∙ (λ i. max (t.size i) (u.size i));
      sign = signed ∙ (λ i. t.sign i && u.sign i);
      own = λ r f. ap (λ s. result_size s (size_in r left) (size_in r right)) h ∙ (λ i. max (t.own r f.0 i) (u.own r f.1 i)) ∙ sym width;
      value = λ r f s.
          both_at r s.signed s.width ∙ (λ i. binary_value op s.width (t.value r f.0 s i) (u.value r f.1 s i))
          ∙ plain_value op s.width (m.value (values_of r) s) (k.value (values_of r) s) (subst IsPlain (sym h) tt);
    }

  chosen_at : (test : core.Expression Text) (r : Registers) (b : Bool) (w : ℕ)
      → tree_value r w (widened_by b w (core.Conditional test left right))
      ≡ conditional (truth (tree_value r (size_in r test) test)) (tree_value r w (widened_by b w left)) (tree_value r w (widened_by b w right))
  chosen_at test r b w = refl

  pub typed_chosen : (c : Meaning) (test : core.Expression Text) → IsSelfDetermined n c test → (joined : Shape)
      → joined.width ≡ max shape.width other.width → joined.signed ≡ (shape.signed && other.signed)
      → IsTyped n (meaning.chosen_meaning c m k) joined (core.Conditional test left right)
  typed_chosen c test s joined width signed = record {
    size = width ∙ (λ i. max (t.size i) (u.size i));
    sign = signed ∙ (λ i. t.sign i && u.sign i);
    own = λ r f. (λ i. max (t.own r f.1.0 i) (u.own r f.1.1 i)) ∙ sym width;
    value = λ r f a. chosen_at test r a.signed a.width ∙ (λ i. conditional (truth (own_digits n c test s r f.0 i)) (t.value r f.1.0 a i) (u.value r f.1.1 a i));
  }

  -- both operands at their common size and sign
  module _ (s : Shape) (width : s.width ≡ max m.size k.size) (signed : s.signed ≡ (m.signed && k.signed)) where
    is_common : s ≡ common_shape m k
    is_common = λ i. record { width = width i; signed = signed i }

    sizes_by : (r : Registers) → HasObjectWidths n r left → HasObjectWidths n r right → (b : Bool) → max (size_in r (widened_by b s.width left)) (size_in r (widened_by b s.width right)) ≡ max m.size k.size
    sizes_by r f g b =
        let own : size_in r left ≡ m.size = t.own r f ∙ t.size in
        let other : size_in r right ≡ k.size = u.own r g ∙ u.size in
        let first : IsBetween r s.width left (widened_by b s.width left) = size-widened r b s.width left (omega (arith, own, width)) in
        let second : IsBetween r s.width right (widened_by b s.width right) = size-widened r b s.width right (omega (arith, other, width)) in
        omega (arith, own, other, first.0, first.1, second.0, second.1, width)

    pub typed_operands : AreOperands n (common_shape m k).width (λ values. m.value values (common_shape m k)) (λ values. k.value values (common_shape m k)) (widened s left) (widened s right)
    typed_operands = record {
      size = λ r f g. sizes_by r (fits-widened (IsWide n r) s.signed s.width left f) (fits-widened (IsWide n r) s.signed s.width right g) s.signed;
      left_is = λ r f.
          subst (λ (c : Shape). tree_value r c.width (widened s left) ≡ m.value (values_of r) c) is_common
          (t.value r (fits-widened (IsWide n r) s.signed s.width left f) s);
      right_is = λ r f.
          subst (λ (c : Shape). tree_value r c.width (widened s right) ≡ k.value (values_of r) c) is_common
          (u.value r (fits-widened (IsWide n r) s.signed s.width right f) s);
    }

module _ (n : Names) (m k : Meaning) (shape : Shape) (left by : core.Expression Text) (t : IsTyped n m shape left) (s : IsSelfDetermined n k by) where
  module _ (op : BinaryOperator) (h : sizing_of op ≡ LeftAsked) where
    shifted_at : (r : Registers) (b : Bool) (w : ℕ) → tree_value r w (widened_by b w (core.Binary op left by)) ≡ binary_value op w (tree_value r w (widened_by b w left)) (tree_value r (size_in r by) by)
    shifted_at r b w =
        ap (λ a. tree_value r w (adapted_binary (operand_at b w) a op left by (widened_by b w left) (widened_by b w by))) h
        ∙ ap (by_sizing r w op (widened_by b w left) by) h

    pub typed_shifted : IsTyped n (meaning.shifted (binary_value op 0) m k) shape (core.Binary op left by)
    typed_shifted = record {
      size = t.size;
      sign = t.sign;
      own = λ r f. ap (λ a. result_size a (size_in r left) (size_in r by)) h ∙ t.own r f.0;
      value = λ r f a.
          shifted_at r a.signed a.width ∙ (λ i. binary_value op a.width (t.value r f.0 a i) (own_digits n k by s r f.1 i))
          ∙ plain_value op a.width (m.value (values_of r) a) (self_determined_value k (values_of r)) (subst IsPlain (sym h) tt);
    }

pub swapped : {n : Names} {w : ℕ} {V W : Values → Vector} {left right : core.Expression Text} → AreOperands n w V W left right → AreOperands n w W V right left
swapped {n} {w} {V} {W} {left} {right} o = record {
  size = λ r f g. let same = o.size r g f in omega (arith, same);
  left_is = o.right_is;
  right_is = o.left_is;
}

module _ (n : Names) (op : BinaryOperator) (left right : core.Expression Text) (shape : Shape) (one : shape.width ≡ 1) (plain : shape.signed ≡ false) where
  module _ (h : sizing_of op ≡ Greatest) (w : ℕ) (V W : Values → Vector) (o : AreOperands n w V W left right) where
    compared_at : (r : Registers) → HasObjectWidths n r left → HasObjectWidths n r right → (asked : ℕ) → tree_value r asked (core.Binary op left right) ≡ resize asked (comparison op (V (values_of r)) (W (values_of r)) ∷ [])
    compared_at r f g asked =
        ap (by_sizing r asked op left right) h
        ∙ ap (λ k. binary_value op asked (tree_value r k left) (tree_value r k right)) (o.size r f g)
        ∙ (λ i. binary_value op asked (o.left_is r f i) (o.right_is r g i))
        ∙ compared_value op asked (V (values_of r)) (W (values_of r)) (subst IsComparing (sym h) tt)

    pub typed_compared : IsTyped n (one_digit_meaning (λ values. comparison op (V values) (W values))) shape (core.Binary op left right)
    typed_compared =
        typed_alone n (one_digit_meaning (λ values. comparison op (V values) (W values))) (λ values. comparison op (V values) (W values) ∷ []) shape
        (core.Binary op left right) one plain (λ values s. refl)
        (record { whole = λ change. ap (λ s. adapted_binary change s op left right (adapted change left) (adapted change right)) h; kept = λ a. refl })
        (λ r f. ap (λ s. result_size s (size_in r left) (size_in r right)) h ∙ sym one)
        (λ r f asked. compared_at r f.0 f.1 asked)
        (λ r f. sym one)

  module _ (h : sizing_of op ≡ EachOwn) (m k : Meaning) (s : IsSelfDetermined n m left) (t : IsSelfDetermined n k right) where
    pub typed_decided : IsTyped n (meaning.decided (decision op) m k) shape (core.Binary op left right)
    typed_decided =
        typed_alone n (meaning.decided (decision op) m k) (λ values. decision op (self_determined_value m values) (self_determined_value k values) ∷ []) shape
        (core.Binary op left right) one plain (λ values a. refl)
        (record { whole = λ change. ap (λ b. adapted_binary change b op left right (adapted change left) (adapted change right)) h; kept = λ a. refl })
        (λ r f. ap (λ b. result_size b (size_in r left) (size_in r right)) h ∙ sym one)
        (λ r f asked.
        ap (by_sizing r asked op left right) h ∙ (λ i. binary_value op asked (own_digits n m left s r f.0 i) (own_digits n k right t r f.1 i))
        ∙ decided_value op asked (self_determined_value m (values_of r)) (self_determined_value k (values_of r)) (subst IsDeciding (sym h) tt))
        (λ r f. sym one)

-- an order by the sign that both operands have
pub typed_ordered : (n : Names) (m k : Meaning) (shape : Shape) (tree : core.Expression Text) (S P : Vector → Vector → Digit) (b : Bool)
    → b ≡ (common_shape m k).signed
    → IsTyped n (one_digit_meaning (λ values. meaning.ordered S P b (m.value values (common_shape m k)) (k.value values (common_shape m k)))) shape tree
    → IsTyped n (meaning.compared (meaning.ordered S P) m k) shape tree
typed_ordered n m k shape tree S P b h t =
    subst (λ (c : Bool). IsTyped n (one_digit_meaning (λ values. meaning.ordered S P c (m.value values (common_shape m k)) (k.value values (common_shape m k)))) shape tree) h t

-- the complement of exclusive or, digit by digit
xnor_pair : (d e : Digit) → not_digit (xor_digit d e) ≡ xnor_digit d e
xnor_pair Zero Zero = refl
xnor_pair Zero One = refl
xnor_pair Zero X = refl
xnor_pair Zero Z = refl
xnor_pair One Zero = refl
xnor_pair One One = refl
xnor_pair One X = refl
xnor_pair One Z = refl
xnor_pair X Zero = refl
xnor_pair X One = refl
xnor_pair X X = refl
xnor_pair X Z = refl
xnor_pair Z Zero = refl
xnor_pair Z One = refl
xnor_pair Z X = refl
xnor_pair Z Z = refl

xnor_is : (v u : Vector) → not_vector (xor_vector v u) ≡ each_pair xnor_digit v u
xnor_is [] u = refl
xnor_is (d ∷ v) [] = refl
xnor_is (d ∷ v) (e ∷ u) = λ i. xnor_pair d e i ∷ xnor_is v u i

pub typed_xnor : (n : Names) (m k : Meaning) (shape : Shape) (tree : core.Expression Text)
    → IsTyped n (meaning.each_of (λ width v. not_vector v) (meaning.both_of xor_vector m k)) shape tree → IsTyped n (meaning.both_of (each_pair xnor_digit) m k) shape tree
typed_xnor n m k shape tree t = record {
  size = t.size;
  sign = t.sign;
  own = t.own;
  value = λ r f s. t.value r f s ∙ xnor_is (m.value (values_of r) s) (k.value (values_of r) s);
}

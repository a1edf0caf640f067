-- The trees of the core that stand for an expression: at its own size and sign, and at those of what stands around it.
use Rattle.std.specs.Prelude.{◌≡◌, ℕ, ◌≤◌, Option, Some, None, ◌&&◌, length, max, slice_index, string_bytes}
use Rattle.logic4.specs.Vector.{Vector}
use Rattle.model.specs.declared.tree.UnaryOperator.{UnaryOperator}
use Rattle.model.specs.declared.tree.UnaryOperator.TheVariants.{Not, LogicalNot, ReduceAnd, ReduceOr, ReduceXor}
use Rattle.model.specs.declared.tree.BinaryOperator.{BinaryOperator}
use Rattle.model.specs.declared.tree.BinaryOperator.TheVariants.{LogicalOr, LogicalAnd, Equal, NotEqual, CaseEqual, CaseNotEqual, Less, LessEqual, Greater, GreaterEqual, SignedLess, SignedLessEqual}
use Rattle.logic4.specs.declared.digit.Digit.{Digit}
use Rattle.logic4.specs.declared.digit.Digit.TheVariants.{X}
use Rattle.logic4.specs.Operators.{reduce_and, reduce_or, reduce_xor, logical_not, logical_and, logical_or, lt_vector, le_vector, eq_vector, ne_vector, case_eq_vector, case_ne_vector}
use Rattle.logic4.specs.Signed.{signed_lt_vector, signed_le_vector}
use Rattle.model.specs.Syntax as core
use Rattle.model.specs.Syntax.{Text}
use Rattle.model.specs.SourceTrees.{source_expression_of}
use Rattle.model.specs.Elaboration.{number_of}
use Rattle.shaped_trees.specs.declared.shape.Shape.{Shape}
use Rattle.shaped_trees.specs.Trees.{Values, Registers, values_of, size_in, tree_value, AllNamed, widened}
use Rattle.sizing.specs.declared.environment.ObjectValue.{ObjectValue}
use Rattle.sizing.specs.declared.environment.ObjectValue.TheVariants as worth
use Rattle.sizing.specs.declared.environment.Object.{Object}
use Rattle.sizing.specs.Names.{Names, IsNamedObject, object_width}
use Rattle.sizing.specs.declared.typed.Typed.{Typed}
use Rattle.sizing.specs.Meanings.{Meaning, self_determined_value, own_shape}

-- the flat name of an object that varies
abbrev pub IsNameOf : Text → Object → Type 0
IsNameOf name o = (text : _) × (o.value ≡ worth.Variable text) × (string_bytes text ≡ name)

-- a register of this name is as wide as the objects that it stands for
pub record IsWide (n : Names) (r : Registers) (name : Text) : Type 0 where
  pub width : (o : Object) → IsNamedObject n o → IsNameOf name o → slice_index r.widths (number_of r.declared name) ≡ object_width o
  pub digits : (o : Object) → IsNamedObject n o → IsNameOf name o → length (values_of r name) ≡ object_width o

-- the registers that a tree names are as wide as the objects that they stand for
abbrev pub HasObjectWidths : Names → Registers → core.Expression Text → Type 0
HasObjectWidths n r tree = AllNamed (IsWide n r) tree

-- A tree stands for a meaning: it has its size and sign, and, widened to any size and sign, its value there.
pub record IsTyped (n : Names) (m : Meaning) (shape : Shape) (tree : core.Expression Text) : Type 0 where
  pub size : shape.width ≡ m.size
  pub sign : shape.signed ≡ m.signed
  pub own : (r : Registers) → HasObjectWidths n r tree → size_in r tree ≡ shape.width
  pub value : (r : Registers) → HasObjectWidths n r tree → (s : Shape) → tree_value r s.width (widened s tree) ≡ m.value (values_of r) s

-- an expression of the program with its tree stands for a meaning
abbrev pub Types : Names → Meaning → Typed → Type 0
Types n m t = IsTyped n m t.shape (source_expression_of t.tree)

-- What is lowered: in the core it is no wider than the size that is asked, and no narrower than the expression; at that size its value
-- is that of the expression at that size and sign, whatever the values of the registers.
pub record IsLowered (n : Names) (m : Meaning) (s : Shape) (made : core.Expression Text) : Type 0 where
  pub least : (r : Registers) → HasObjectWidths n r made → m.size ≤ size_in r made
  pub most : (r : Registers) → HasObjectWidths n r made → size_in r made ≤ s.width
  pub value : (r : Registers) → HasObjectWidths n r made → tree_value r s.width made ≡ m.value (values_of r) s

-- A tree stands for the value of a self-determined operand (5.4.1).
pub record IsSelfDetermined (n : Names) (m : Meaning) (made : core.Expression Text) : Type 0 where
  pub size : (r : Registers) → HasObjectWidths n r made → size_in r made ≡ m.size
  pub value : (r : Registers) → HasObjectWidths n r made → tree_value r m.size made ≡ self_determined_value m (values_of r)

-- Two trees stand for two values of a size, which the core finds for them.
pub record AreOperands (n : Names) (width : ℕ) (left_value right_value : Values → Vector) (left right : core.Expression Text) : Type 0 where
  pub size : (r : Registers) → HasObjectWidths n r left → HasObjectWidths n r right → max (size_in r left) (size_in r right) ≡ width
  pub left_is : (r : Registers) → HasObjectWidths n r left → tree_value r width left ≡ left_value (values_of r)
  pub right_is : (r : Registers) → HasObjectWidths n r right → tree_value r width right ≡ right_value (values_of r)

-- a shape with what stands around it: the greater width, signed where both are
abbrev pub joined_shape : Shape → Shape → Shape
joined_shape s t = record { width = max s.width t.width; signed = s.signed && t.signed }

-- the tree of what an object is worth
abbrev pub object_tree : ObjectValue → core.Expression Text
object_tree (worth.Constant v) = core.Literal v
object_tree (worth.Variable name) = core.Register (string_bytes name)

-- the digit of an operator of one operand, which takes it on its own
abbrev pub reduction : UnaryOperator → Vector → Digit
reduction LogicalNot v = logical_not v
reduction ReduceAnd v = reduce_and v
reduction ReduceOr v = reduce_or v
reduction ReduceXor v = reduce_xor v
reduction Not v = X

-- an operator that has such a digit
abbrev pub IsReduction : UnaryOperator → Type 0
IsReduction Not = ⊥
IsReduction op = Unit {0}

-- the digit of an operator that compares values of one size
abbrev pub comparison : BinaryOperator → Vector → Vector → Digit
comparison Equal v w = eq_vector v w
comparison NotEqual v w = ne_vector v w
comparison CaseEqual v w = case_eq_vector v w
comparison CaseNotEqual v w = case_ne_vector v w
comparison Less v w = lt_vector v w
comparison LessEqual v w = le_vector v w
comparison Greater v w = lt_vector w v
comparison GreaterEqual v w = le_vector w v
comparison SignedLess v w = signed_lt_vector v w
comparison SignedLessEqual v w = signed_le_vector v w
comparison _ v w = X

-- the digit of an operator that takes each operand on its own
abbrev pub decision : BinaryOperator → Vector → Vector → Digit
decision LogicalOr v w = logical_or v w
decision LogicalAnd v w = logical_and v w
decision _ v w = X

-- the shape of an expression with what stands around it, if anything does
abbrev pub shape_within : Meaning → Option Shape → Shape
shape_within m None = own_shape m
shape_within m (Some around) = joined_shape (own_shape m) around

-- the shape of the right side of an assignment to a target of a width (5.5.3)
abbrev pub assigned_shape : Meaning → ℕ → Shape
assigned_shape m width = record { width = max m.size width; signed = m.signed }

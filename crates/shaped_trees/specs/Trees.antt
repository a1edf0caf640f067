-- The core's trees as they stand for values: in a design, with the registers that they name, and at the size and the sign of what stands
-- around them (IEEE 1364-2005, 5.4.1, 5.5.2).
use Rattle.std.specs.Prelude.{◌≡◌, ℕ, ◌+◌, Bool, true, false, ◌||◌, List}
use Rattle.logic4.specs.declared.digit.Extension.{Extension}
use Rattle.logic4.specs.declared.digit.Extension.TheVariants.{Sign}
use Rattle.logic4.specs.Vector.{Vector}
use Rattle.model.specs.declared.tree.UnaryOperator.{UnaryOperator}
use Rattle.model.specs.declared.tree.UnaryOperator.TheVariants.{Not}
use Rattle.model.specs.declared.tree.BinaryOperator.{BinaryOperator}
use Rattle.model.specs.Syntax as core
use Rattle.model.specs.Syntax.{Text}
use Rattle.model.specs.Elaboration.{Declared, number_of, resolved}
use Rattle.model.specs.Expressions.{Store, value_of, own_size, eval, Sizing, BothAsked, LeftAsked, Greatest, EachOwn, sizing_of}
use Rattle.shaped_trees.specs.declared.shape.Shape.{Shape}
use Rattle.shaped_trees.specs.declared.widening.Determined.{Determined}
use Rattle.shaped_trees.specs.declared.widening.Determined.TheVariants as determined

-- the value of each variable, by its flat name
abbrev pub Values : Type 0
Values = Text → Vector

-- The registers of a design: their names with their ranges, their widths and their values.
pub record Registers : Type 0 where
  pub declared : List Declared
  pub widths : List ℕ
  pub store : Store

-- the value of each variable, by the register of its flat name
abbrev pub values_of : Registers → Values
values_of r name = value_of r.store (number_of r.declared name)

-- the own size of a tree in the core
abbrev pub size_in : Registers → core.Expression Text → ℕ
size_in r tree = own_size r.widths (resolved r.declared tree)

-- the value of a tree in the core, at a size
abbrev pub tree_value : Registers → ℕ → core.Expression Text → Vector
tree_value r asked tree = eval r.widths r.store asked (resolved r.declared tree)

-- something holds of each name in a tree
abbrev mutual
  pub AllNamed : (Text → Type 0) → core.Expression Text → Type 0
  AllNamed P (core.Register name) = P name
  AllNamed P (core.Select name i) = P name
  AllNamed P (core.Literal v) = Unit {0}
  AllNamed P (core.Concat parts) = AllNamedIn P parts
  AllNamed P (core.Extend by size e) = AllNamed P e
  AllNamed P (core.Unary op e) = AllNamed P e
  AllNamed P (core.Binary op e f) = AllNamed P e × AllNamed P f
  AllNamed P (core.Conditional c e f) = AllNamed P c × (AllNamed P e × AllNamed P f)

  pub AllNamedIn : (Text → Type 0) → core.Expressions Text → Type 0
  AllNamedIn P core.Nothing = Unit {0}
  AllNamedIn P (core.Also e es) = AllNamed P e × AllNamedIn P es

-- how many nodes a tree has
abbrev mutual
  pub nodes : core.Expression Text → ℕ
  nodes (core.Register name) = 1
  nodes (core.Select name i) = 1
  nodes (core.Literal v) = 1
  nodes (core.Concat parts) = all_nodes parts + 1
  nodes (core.Extend by size e) = nodes e + 1
  nodes (core.Unary op e) = nodes e + 1
  nodes (core.Binary op e f) = nodes e + nodes f + 1
  nodes (core.Conditional c e f) = nodes c + nodes e + nodes f + 1

  pub all_nodes : core.Expressions Text → ℕ
  all_nodes core.Nothing = 0
  all_nodes (core.Also e es) = nodes e + all_nodes es

-- a tree of a binary operator, from its operands as they are and as they are made; the whole is adapted where none has the size and the
-- sign of what stands around it
abbrev pub adapted_binary : (core.Expression Text → core.Expression Text) → Sizing → BinaryOperator → core.Expression Text → core.Expression Text → core.Expression Text → core.Expression Text → core.Expression Text
adapted_binary change BothAsked op e f left right = core.Binary op left right
adapted_binary change LeftAsked op e f left right = core.Binary op left f
adapted_binary change Greatest op e f left right = change (core.Binary op e f)
adapted_binary change EachOwn op e f left right = change (core.Binary op e f)

-- a tree of a unary operator, from its operand as it is and as it is made
abbrev pub adapted_unary : (core.Expression Text → core.Expression Text) → UnaryOperator → core.Expression Text → core.Expression Text → core.Expression Text
adapted_unary change Not e operand = core.Unary Not operand
adapted_unary change op e operand = change (core.Unary op e)

-- A tree with each operand adapted that has the size and the sign of what stands around it, and none inside it that has them (5.4.1,
-- table 5-22).
abbrev pub adapted : (core.Expression Text → core.Expression Text) → core.Expression Text → core.Expression Text
adapted change (core.Unary op e) = adapted_unary change op e (adapted change e)
adapted change (core.Binary op e f) = adapted_binary change (sizing_of op) op e f (adapted change e) (adapted change f)
adapted change (core.Conditional c e f) = core.Conditional c (adapted change e) (adapted change f)
adapted change tree = change tree

-- A literal extended by its sign stands for a number without a size whose most significant digit is x or z: that digit fills up the size
-- of what stands around it (3.5.1).
abbrev pub filled_extension : ℕ → Extension → ℕ → core.Expression Text → core.Expression Text
filled_extension width Sign size (core.Literal v) = core.Extend Sign width (core.Literal v)
filled_extension width by size e = core.Extend by size e

-- an operand at a size where what stands around it isn't signed: the core extends all but such numbers with 0 itself
abbrev pub filled : ℕ → core.Expression Text → core.Expression Text
filled width (core.Extend by size e) = filled_extension width by size e
filled width tree = tree

-- an operand at a size and a sign: extended by its sign where what stands around it is signed (5.5.2)
abbrev pub operand_at : Bool → ℕ → core.Expression Text → core.Expression Text
operand_at true width tree = core.Extend Sign width tree
operand_at false width tree = filled width tree

-- a tree at a size and a sign
abbrev pub widened_by : Bool → ℕ → core.Expression Text → core.Expression Text
widened_by signed width tree = adapted (operand_at signed width) tree

abbrev pub widened : Shape → core.Expression Text → core.Expression Text
widened s tree = widened_by s.signed s.width tree

-- whether an operand is a number that fills up a size
abbrev pub is_filling_extension : Extension → core.Expression Text → Bool
is_filling_extension Sign (core.Literal v) = true
is_filling_extension by e = false

abbrev pub is_filling : core.Expression Text → Bool
is_filling (core.Extend by size e) = is_filling_extension by e
is_filling tree = false

abbrev pub fills_binary : Sizing → Bool → Bool → Bool
fills_binary BothAsked left right = left || right
fills_binary LeftAsked left right = left
fills_binary Greatest left right = false
fills_binary EachOwn left right = false

abbrev pub fills_unary : UnaryOperator → Bool → Bool
fills_unary Not operand = operand
fills_unary op operand = false

-- whether a tree has such a number as an operand of the size of what stands around it
abbrev pub fills : core.Expression Text → Bool
fills (core.Unary op e) = fills_unary op (fills e)
fills (core.Binary op e f) = fills_binary (sizing_of op) (fills e) (fills f)
fills (core.Conditional c e f) = fills e || fills f
fills tree = is_filling tree

-- at which sizes the operands of an operator are computed
abbrev pub IsDetermined : Determined → Sizing → Type 0
IsDetermined determined.Both s = s ≡ BothAsked
IsDetermined determined.Left s = s ≡ LeftAsked
IsDetermined determined.Compared s = s ≡ Greatest
IsDetermined determined.Separate s = s ≡ EachOwn

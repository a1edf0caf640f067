-- Trees of constants: those in which no register is named.
use Rattle.std.specs.Prelude.{◌≡◌, ℕ, ◌+◌}
use Rattle.logic4.specs.Vector.{Vector}
use Rattle.logic4.specs.Operators.{concat_vector}
use Rattle.model.specs.declared.tree.UnaryOperator.{UnaryOperator}
use Rattle.model.specs.declared.tree.BinaryOperator.{BinaryOperator}
use Rattle.model.specs.Elaboration.{all_resolved}
use Rattle.model.specs.Expressions as model
use Rattle.model.specs.Syntax as core
use Rattle.model.specs.Syntax.{Text}
use Rattle.shaped_trees.specs.Trees.{Registers, size_in, tree_value, AllNamed, AllNamedIn}
use Rattle.shaped_trees.specs.declared.evaluation.Sizes.{Sizes}

-- no register is named
abbrev pub IsConstantTree : core.Expression Text → Type 0
IsConstantTree tree = AllNamed (λ name. ⊥) tree

-- the own size of a tree, whatever the registers are
abbrev pub HasSize : core.Expression Text → ℕ → Type 0
HasSize tree size = (r : Registers) → size_in r tree ≡ size

-- the value of a tree at a size, whatever the registers are
abbrev pub HasValue : core.Expression Text → ℕ → Vector → Type 0
HasValue tree asked v = (r : Registers) → tree_value r asked tree ≡ v

-- no register is named in several
abbrev pub AreConstantTrees : core.Expressions Text → Type 0
AreConstantTrees trees = AllNamedIn (λ name. ⊥) trees

-- a size with those of parts behind it, whatever the registers are
abbrev pub HasTotal : ℕ → core.Expressions Text → ℕ → Type 0
HasTotal first trees size = (r : Registers) → size ≡ first + model.total_size r.widths (all_resolved r.declared trees)

-- digits with those of parts behind them, whatever the registers are
abbrev pub HasDigits : Vector → core.Expressions Text → Vector → Type 0
HasDigits first trees v = (r : Registers) → v ≡ concat_vector first (model.joined r.widths r.store (all_resolved r.declared trees))

-- the size at which an operand is computed, whatever the registers are
abbrev pub IsOperandSize : UnaryOperator → ℕ → core.Expression Text → ℕ → Type 0
IsOperandSize op asked e size = (r : Registers) → model.operand_size op asked (size_in r e) ≡ size

-- the sizes at which two operands are computed, whatever the registers are
pub record AreSizes (op : BinaryOperator) (asked : ℕ) (e f : core.Expression Text) (s : Sizes) : Type 0 where
  pub left : (r : Registers) → model.left_size (model.sizing_of op) asked (size_in r e) (size_in r f) ≡ s.left
  pub right : (r : Registers) → model.right_size (model.sizing_of op) asked (size_in r e) (size_in r f) ≡ s.right

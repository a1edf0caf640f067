-- The steps that are made of an expression.
use Rattle.std.specs.Prelude.{ℕ, Bool, true, false, nat_le, if◌then◌else◌, Option, Some, None, List, [], ◌∷◌, ◌++◌, slice_index}
use Rattle.model.specs.declared.tree.BinaryOperator.{BinaryOperator}
use Rattle.logic4.specs.Vector.{resize}
use Rattle.model.specs.Syntax as tree
use Rattle.model.specs.Syntax.{Expression, Expressions}
use Rattle.model.specs.Expressions.{sizing_of, left_size, right_size, operand_size, own_size}
use Rattle.design.specs.declared.code.Op.{Op}
use Rattle.design.specs.declared.code.Op.TheVariants.{Load, Pick, Constant, Unary, Binary, BinaryConstant, BinaryRegister, Join, Resize, Extend, Choose}

-- the step that joins a part to those before it: there are none before the first
abbrev pub join_code : Bool → List Op
join_code true = []
join_code false = Join ∷ []

-- the step of an operator that takes its right operand, a register or a vector, without the stack
abbrev pub direct_step : BinaryOperator → ℕ → ℕ → ℕ → Expression ℕ → Option Op
direct_step op size asked other (tree.Register r) = Some (BinaryRegister op size asked r other)
direct_step op size asked other (tree.Literal v) = Some (BinaryConstant op size asked (resize other v))
direct_step op size asked other e = None

-- one step where there is one, and else these
abbrev pub step_or : Option Op → List Op → List Op
step_or (Some op) ops = op ∷ []
step_or None ops = ops

abbrev mutual
  -- the steps of an expression at the size asked: its operands from left to right, and then its operator
  pub expression_code : List ℕ → ℕ → Expression ℕ → List Op
  expression_code widths asked (tree.Register r) = Load r asked ∷ []
  expression_code widths asked (tree.Select r i) = Pick r i asked ∷ []
  expression_code widths asked (tree.Literal v) = Constant (resize asked v) ∷ []
  expression_code widths asked (tree.Concat parts) = parts_code widths true parts ++ Resize asked ∷ []
  expression_code widths asked (tree.Unary op e) =
      expression_code widths (operand_size op asked (own_size widths e)) e ++ Unary op asked ∷ []
  expression_code widths asked (tree.Binary op e f) =
      expression_code widths (left_size (sizing_of op) asked (own_size widths e) (own_size widths f)) e
      ++ step_or (direct_step op (left_size (sizing_of op) asked (own_size widths e) (own_size widths f)) asked (right_size (sizing_of op) asked (own_size widths e) (own_size widths f)) f)
      (expression_code widths (right_size (sizing_of op) asked (own_size widths e) (own_size widths f)) f
      ++ Binary op (left_size (sizing_of op) asked (own_size widths e) (own_size widths f)) asked ∷ [])
  expression_code widths asked (tree.Conditional c e f) =
      expression_code widths (own_size widths c) c
      ++ (expression_code widths asked e ++ (expression_code widths asked f ++ Choose asked ∷ []))
  expression_code widths asked (tree.Extend by size e) = expression_code widths (own_size widths e) e ++ Extend by size asked ∷ []

  -- the steps of the parts of a concatenation, each joined to those before it
  pub parts_code : List ℕ → Bool → Expressions ℕ → List Op
  parts_code widths is_first tree.Nothing = []
  parts_code widths is_first (tree.Also e es) =
      expression_code widths (own_size widths e) e ++ (join_code is_first ++ parts_code widths false es)

-- the steps of a condition or of an argument
abbrev pub own_code : List ℕ → Expression ℕ → List Op
own_code widths e = expression_code widths (own_size widths e) e

-- the steps of an expression of this own size, at a width: cut to it where the expression is wider
abbrev pub fitted_code : List ℕ → ℕ → ℕ → Expression ℕ → List Op
fitted_code widths width own e =
    if nat_le own width then expression_code widths width e else expression_code widths own e ++ Resize width ∷ []

-- the steps of the right side of an assignment
abbrev pub assigned_code : List ℕ → ℕ → Expression ℕ → List Op
assigned_code widths r e = fitted_code widths (slice_index widths r) (own_size widths e) e

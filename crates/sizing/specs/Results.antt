-- What constant expressions are worth.
use Rattle.std.specs.Prelude.{◌≡◌}
use Rattle.logic4.specs.Vector.{Vector, resize}
use Rattle.shaped_trees.specs.declared.shape.Shape.{Shape}
use Rattle.shaped_trees.specs.declared.constants.Constant.{Constant}
use Rattle.shaped_trees.specs.Trees.{Registers, values_of}
use Rattle.sizing.specs.Meanings.{Meaning, own_shape, no_values}
use Rattle.sizing.specs.Typing.{assigned_shape}

-- digits are the value of an expression at a size and a sign, whatever the registers hold
pub record IsWorth (m : Meaning) (s : Shape) (v : Vector) : Type 0 where
  pub digits : v ≡ m.value no_values s
  pub fixed : (r : Registers) → m.value (values_of r) s ≡ v

-- a constant is what an expression means at its own size and sign
pub record IsConstantOf (m : Meaning) (c : Constant) : Type 0 where
  pub digits : IsWorth m (own_shape m) c.digits
  pub sign : c.signed ≡ m.signed

-- a constant is what an expression means as it is assigned to what has a shape: the value at the greater of both widths, cut to that of the shape
pub record IsAssigned (m : Meaning) (s : Shape) (c : Constant) : Type 0 where
  pub digits : (v : Vector) × IsWorth m (assigned_shape m s.width) v × (c.digits ≡ resize s.width v)
  pub sign : c.signed ≡ s.signed

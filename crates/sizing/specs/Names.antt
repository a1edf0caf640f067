-- What names mean at a place of a design (IEEE 1364-2005, 12.5, 12.6), and what the objects that they name are worth.
use Rattle.std.specs.Prelude.{◌≡◌, ℕ, List, Option, Some, None, ℤ, length, string_bytes}
use Rattle.logic4.specs.Vector.{Vector}
use Rattle.ranges.specs.declared.range.VectorRange.{VectorRange}
use Rattle.ranges.specs.Ranges.{range_width}
use Rattle.shaped_trees.specs.Trees.{Values}
use Rattle.sizing.specs.declared.environment.ObjectValue.{ObjectValue}
use Rattle.sizing.specs.declared.environment.ObjectValue.TheVariants as worth
use Rattle.sizing.specs.declared.environment.Object.{Object}

-- What is found: a scope, by the scope around it, its name and its index; an object, by its scope and its name; what holds the value
-- of a function's call, by the call's token. Without a scope around it a name is looked up at the place itself.
pub record Names : Type 0 where
  pub scope : Option ℕ → List ℕ → Option ℤ → Option ℕ
  pub object : Option ℕ → List ℕ → Option Object
  pub call : ℕ → Option Object

-- an object that some name or some call means
pub data IsNamedObject (n : Names) (o : Object) : Type 0 where
  by_name : (within : Option ℕ) (name : List ℕ) → n.object within name ≡ Some o → IsNamedObject n o
  by_call : (token : ℕ) → n.call token ≡ Some o → IsNamedObject n o

-- a variable without a range has one digit
abbrev pub variable_width : Option VectorRange → ℕ
variable_width None = 1
variable_width (Some r) = range_width r

-- a constant is as wide as its digits
abbrev pub width_by : Option VectorRange → ObjectValue → ℕ
width_by range (worth.Constant v) = length v
width_by range (worth.Variable name) = variable_width range

-- how wide an object is
abbrev pub object_width : Object → ℕ
object_width o = width_by o.range o.value

-- the digits of a constant, or those that a variable has
abbrev pub value_by : Values → ObjectValue → Vector
value_by values (worth.Constant v) = v
value_by values (worth.Variable name) = values (string_bytes name)

-- the value of an object
abbrev pub object_value : Values → Object → Vector
object_value values o = value_by values o.value

-- What constant expressions stand for where names mean something, and the ranges and types that declarations say (IEEE 1364-2005, 4.3.1,
-- 4.8, 4.10.1).
use Rattle.std.specs.Prelude.{◌≡◌, ℕ, ◌≤◌, Bool, true, false, ◌||◌, if◌then◌else◌, List, map, length, Option, None, Some, unwrap_or, ℤ, pos, ◌+ℤ◌, ◌-ℤ◌, int_lt}
use Rattle.std.specs.List.{range_with_len}
use Rattle.logic4.specs.Vector.{greatest_width}
use Rattle.logic4.specs.Extensions.{extend_vector}
use Rattle.ranges.specs.declared.range.VectorRange.{VectorRange}
use Rattle.ranges.specs.Ranges.{range_width}
use Rattle.shaped_trees.specs.declared.constants.Constant.{Constant}
use Rattle.shaped_trees.specs.Integers.{extension_of, integer_of}
use Rattle.sizing.specs.declared.environment.ObjectValue.TheVariants as worth
use Rattle.sizing.specs.declared.environment.Object.{Object}
use Rattle.sizing.specs.Names.{Names}
use Rattle.sizing.specs.Meanings.{meaning}
use Rattle.sizing.specs.Results.{IsConstantOf, IsAssigned}
use Rattle.syntax_tree.specs.Expressions.{Expression, plain_expression_of}
use Rattle.syntax_tree.specs.declared.declarations.VerilogRange as source
use Rattle.syntax_tree.specs.declared.declarations.ValueType.{ValueType}
use Rattle.syntax_tree.specs.declared.declarations.VariableKind.{VariableKind}
use Rattle.syntax_tree.specs.declared.declarations.VariableKind.TheVariants as kind
use Rattle.syntax_tree.specs.declared.declarations.ParameterDeclaration.{ParameterDeclaration}
use Rattle.syntax_tree.specs.declared.declarations.ParameterKind.{ParameterKind}
use Rattle.syntax_tree.specs.declared.declarations.ParameterKind.TheVariants as parameter
use Rattle.design_scopes.specs.declared.variables.VariableType.{VariableType}
use Rattle.design_scopes.specs.declared.parameter_types.ParameterType.{ParameterType}

-- an expression is constant, and this is its number, if it has one
pub record IsNumberOf (n : Names) (e : Expression) (found : Option ℤ) : Type 0 where
  pub value : Constant
  pub meant : IsConstantOf (meaning n e) value
  pub number : found ≡ integer_of value.signed value.digits

-- the bounds of a range are these numbers (4.3.1)
pub record IsRangeOf (n : Names) (r : source.VerilogRange) (found : VectorRange) : Type 0 where
  pub most : IsNumberOf n (plain_expression_of r.most) (Some found.most)
  pub least : IsNumberOf n (plain_expression_of r.least) (Some found.least)

-- the index at a place of an array: the first bound, and then one nearer to the last each time (7.1.5)
abbrev pub index_at : VectorRange → ℕ → ℤ
index_at r k = if int_lt r.most r.least then r.most +ℤ pos k else r.most -ℤ pos k

-- the indices of an array, from the first bound to the last
abbrev pub indices_of : VectorRange → List ℤ
indices_of r = map (index_at r) (range_with_len 0 (range_width r))

-- numbers are the indices of an array of this range
abbrev pub AreIndicesOf : Names → source.VerilogRange → List ℤ → Type 0
AreIndicesOf n r found = (bounds : VectorRange) × IsRangeOf n r bounds × (found ≡ indices_of bounds)

-- the range of a vector, if it has one, which isn't too wide
abbrev pub IsVectorRange : Names → Option source.VerilogRange → Option VectorRange → Type 0
IsVectorRange n None None = Unit {0}
IsVectorRange n None (Some found) = ⊥
IsVectorRange n (Some r) None = ⊥
IsVectorRange n (Some r) (Some found) = IsRangeOf n r found × (range_width found ≤ greatest_width)

-- a range that a vector may have, if there is one
abbrev pub IsNotWide : Option VectorRange → Type 0
IsNotWide None = Unit {0}
IsNotWide (Some r) = range_width r ≤ greatest_width

-- the range of so many digits, the least of which has the number 0
abbrev pub range_from_zero : ℕ → VectorRange
range_from_zero width = record { most = pos width -ℤ pos 1; least = pos 0 }

-- the type of a variable: an integer has 32 digits and a sign, a time 64 and none, and of others the declaration says it (4.8)
abbrev pub IsVariableType : Names → VariableKind → ValueType → VariableType → Type 0
IsVariableType n kind.Integer v found = found ≡ record { signed = true; range = Some (range_from_zero 32) }
IsVariableType n kind.Time v found = found ≡ record { signed = false; range = Some (range_from_zero 64) }
IsVariableType n kind.Register v found = (found.signed ≡ v.signed) × IsVectorRange n v.range found.range

-- the type of so many digits from 0 on
abbrev pub plain_type : ℕ → Bool → ParameterType
plain_type width signed = record { shape = record { width = width; signed = signed }; range = Some (range_from_zero width) }

-- the type that a parameter has by its range
abbrev pub IsRangedType : Option VectorRange → Bool → Option ParameterType → Type 0
IsRangedType None signed found = found ≡ None
IsRangedType (Some r) signed found = found ≡ Some (record { shape = record { width = range_width r; signed = signed }; range = Some r })

-- the type that a parameter's declaration says: an integer has 32 digits and a sign, a time 64 and none, and others have one where they
-- have a range (4.10.1)
abbrev pub IsStatedType : Names → ParameterKind → ValueType → Option ParameterType → Type 0
IsStatedType n parameter.Integer v found = found ≡ Some (plain_type 32 true)
IsStatedType n parameter.Time v found = found ≡ Some (plain_type 64 false)
IsStatedType n parameter.Unstated v found = (r : Option VectorRange) × IsVectorRange n v.range r × IsRangedType r v.signed found

-- the type of a parameter without a range: the size of its value, and its sign, unless it is signed itself (4.10.1)
abbrev pub type_of_value : Bool → Constant → ParameterType
type_of_value signed value = plain_type (length value.digits) (signed || value.signed)

-- the value of a parameter's own declaration: as it is assigned to its type, where it has one
abbrev pub IsOwnValue : Names → Option ParameterType → Expression → Constant → Type 0
IsOwnValue n None e value = IsConstantOf (meaning n e) value
IsOwnValue n (Some t) e value = IsAssigned (meaning n e) t.shape value

-- the value of a parameter: the one that it is given from elsewhere (12.2), or that of its declaration
abbrev pub IsParameterValue : Names → Option ParameterType → Option Constant → Expression → Constant → Type 0
IsParameterValue n stated None e value = IsOwnValue n stated e value
IsParameterValue n stated (Some given) e value = value ≡ given

-- a value in a type: extended by its own sign, or cut
abbrev pub object_of_type : ParameterType → Constant → Object
object_of_type t value = record {
  signed = t.shape.signed;
  range = t.range;
  value = worth.Constant (extend_vector (extension_of value.signed) t.shape.width value.digits);
}

-- The object of a parameter has its value, in the type that its declaration says, or in that of the value (4.10.1).
pub record IsParameter (n : Names) (p : ParameterDeclaration) (given : Option Constant) (e : Expression) (o : Object) : Type 0 where
  pub stated : Option ParameterType
  pub found : Constant
  pub says : IsStatedType n p.kind p.value_type stated
  pub is : IsParameterValue n stated given e found
  pub object : o ≡ object_of_type (unwrap_or stated (type_of_value p.value_type.signed found)) found

-- Numbers that constant expressions stand for.
use Rattle.std.proofs.Common.{◌≡◌, ◌<◌, ◌^◌, Bool, true, false, if◌then◌else◌, Option, Some, None, Result, refl, sym, ap, subst, ◌∙◌, arith, ℤ, w64, to_z, of_z}
use Rattle.std.specs.Prelude.{unsigned_abs, nat_lt, unwrap_or, IfOk}
use Rattle.std.specs.Int.RustNames.{FitsSigned}
use Rattle.std.proofs.lemmas.Bool.Decides.{nat_tests}
use Rattle.std.proofs.lemmas.Int.{to_z-of_z, fits_signed_from_abs}
use Rattle.logic4.specs.Vector.{is_known}
use Rattle.ranges.specs.declared.range.VectorRange.{VectorRange}
use Rattle.shaped_trees.specs.declared.constants.Constant.{Constant}
use Rattle.shaped_trees.specs.Integers.{integer_of, short, whole_number}
use Rattle.sizing.specs.declared.environment.Object.{Object}
use Rattle.sizing.specs.Names.{Names}
use Rattle.sizing.specs.Meanings.{meaning}
use Rattle.sizing.specs.Results.{IsConstantOf, IsAssigned}
use Rattle.syntax_tree.specs.Expressions.{Expression, plain_expression_of}
use Rattle.syntax_tree.specs.declared.declarations.VerilogRange as source
use Rattle.syntax_tree.specs.declared.declarations.ValueType.{ValueType}
use Rattle.syntax_tree.specs.declared.declarations.ParameterDeclaration.{ParameterDeclaration}
use Rattle.syntax_tree.specs.declared.declarations.ParameterKind.{ParameterKind}
use Rattle.syntax_tree.specs.declared.declarations.ParameterKind.TheVariants.{Unstated}
use Rattle.design_scopes.specs.declared.parameter_types.ParameterType.{ParameterType}
use Rattle.design_scopes.specs.Values.{IsNumberOf, IsRangeOf, IsVectorRange, IsNotWide, IsRangedType, IsStatedType, IsOwnValue, IsParameterValue, IsParameter, type_of_value, object_of_type}

pub number_told : (n : Names) (e : Expression) (value : Constant) (found : Option ℤ) → IsConstantOf (meaning n e) value → found ≡ integer_of value.signed value.digits → IsNumberOf n e found
number_told n e value found meant number = record { value = value; meant = meant; number = number }

by_test : (b : Bool) (z y : ℤ) (P : Type 0) → (if b then Some y else None) ≡ Some z → (b ≡ true → y ≡ z → P) → P
by_test true z y P h f = f refl (cc)
by_test false z y P h f = absurd (cc)

short_fits : (y z : ℤ) → short y ≡ Some z → FitsSigned w64 z
short_fits y z h =
    by_test (nat_lt (unsigned_abs y) (2 ^ 63)) z y (FitsSigned w64 z) h (λ t e.
    fits_signed_from_abs w64 z (subst (λ x. unsigned_abs x < 2 ^ 63) e (grind (arith, nat_tests))))

known_fits : (b : Bool) (y z : ℤ) → (if b then short y else None) ≡ Some z → FitsSigned w64 z
known_fits true y z h = short_fits y z h
known_fits false y z h = absurd (cc)

-- a number that an expression stands for is one of the program's
pub number_fits : (n : Names) (e : Expression) (z : ℤ) → IsNumberOf n e (Some z) → FitsSigned w64 z
number_fits n e z h = known_fits (is_known h.value.digits) (whole_number h.value.signed h.value.digits) z (sym h.number)

pub number_same : (m n : Names) (e : Expression) (x : Option ℤ) (z : ℤ) → m ≡ n → x ≡ Some z → IsNumberOf m e x → IsNumberOf n e (Some z)
number_same m n e x z same is h = subst (λ (k : Names). IsNumberOf k e (Some z)) same (subst (IsNumberOf m e) is h)

-- the numbers of a range, as the program passes them on
pub range_told : (m n : Names) (r : source.VerilogRange) (x y : Option ℤ) (most least : ℤ) (made : VectorRange) → m ≡ n → x ≡ Some most → y ≡ Some least → IsNumberOf m (plain_expression_of r.most) x → IsNumberOf m (plain_expression_of r.least) y
    → made.most ≡ to_z w64 (of_z w64 most) → made.least ≡ to_z w64 (of_z w64 least) → IsRangeOf n r made
range_told m n r x y most least made same is_most is_least h k e f =
    let high = number_same m n (plain_expression_of r.most) x most same is_most h in
    let low = number_same m n (plain_expression_of r.least) y least same is_least k in
    let high_is : made.most ≡ most = e ∙ to_z-of_z w64 most (number_fits n (plain_expression_of r.most) most high) in
    let low_is : made.least ≡ least = f ∙ to_z-of_z w64 least (number_fits n (plain_expression_of r.least) least low) in
    record {
      most = subst (λ (z : ℤ). IsNumberOf n (plain_expression_of r.most) (Some z)) (sym high_is) high;
      least = subst (λ (z : ℤ). IsNumberOf n (plain_expression_of r.least) (Some z)) (sym low_is) low;
    }

-- ---- parameters

-- what a constant expression is worth, where names mean the same
pub own_value_told : {E : Type 0} (r : Result Constant E) (m n : Names) (declared : Option ParameterType) (e : Expression) → m ≡ n → declared ≡ None → IfOk r (λ v. IsConstantOf (meaning m e) v)
    → IfOk r (λ v. IsOwnValue n declared e v)
own_value_told r m n declared e same is h =
    subst (λ (k : Names). IfOk r (λ v. IsOwnValue k declared e v)) same (subst (λ (d : Option ParameterType). IfOk r (λ v. IsOwnValue m d e v)) (sym is) h)

pub assigned_value_told : {E : Type 0} (r : Result Constant E) (m n : Names) (declared : Option ParameterType) (t : ParameterType) (e : Expression) → m ≡ n → declared ≡ Some t → IfOk r (λ v. IsAssigned (meaning m e) t.shape v)
    → IfOk r (λ v. IsOwnValue n declared e v)
assigned_value_told r m n declared t e same is h =
    subst (λ (k : Names). IfOk r (λ v. IsOwnValue k declared e v)) same (subst (λ (d : Option ParameterType). IfOk r (λ v. IsOwnValue m d e v)) (sym is) h)

-- a parameter, by its type and its value
pub parameter_told : (n : Names) (p : ParameterDeclaration) (given : Option Constant) (e : Expression) (o : Object) (stated : Option ParameterType) (found : Constant) (by_value t : ParameterType) → IsStatedType n p.kind p.value_type stated
    → IsParameterValue n stated given e found → by_value ≡ type_of_value p.value_type.signed found → t ≡ unwrap_or stated by_value → o ≡ object_of_type t found → IsParameter n p given e o
parameter_told n p given e o stated found by_value t says is value chosen object = record {
  stated = stated;
  found = found;
  says = says;
  is = is;
  object = object ∙ ap (λ (u : ParameterType). object_of_type u found) (chosen ∙ ap (unwrap_or stated) value);
}

-- ---- ranges of vectors

pub fits_range : (n : Names) (range : Option source.VerilogRange) (found : Option VectorRange) → IsVectorRange n range found → IsNotWide found
fits_range n None None h = tt
fits_range n None (Some r) h = absurd h
fits_range n (Some s) None h = absurd h
fits_range n (Some s) (Some r) h = h.1

-- the type of a parameter by its range
pub stated_told : (n : Names) (kind : ParameterKind) (v : ValueType) (range : Option VectorRange) (found : Option ParameterType) → kind ≡ Unstated → IsVectorRange n v.range range → (IsNotWide range → IsRangedType range v.signed found) → IsStatedType n kind v found
stated_told n kind v range found is h ranged =
    subst (λ (k : ParameterKind). IsStatedType n k v found) (sym is) (range, h, ranged (fits_range n v.range range h))

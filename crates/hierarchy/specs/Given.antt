-- The values that parameters are given from elsewhere, and what the declaration of one declares (IEEE 1364-2005, 4.10.1, 12.2).
use Rattle.std.specs.Prelude.{◌≡◌, ℕ, Bool, true, false, List, Option, None, Some, option_map, String, string_bytes}
use Rattle.std.specs.Str.{bytes_eq}
use Rattle.std.specs.Map.{lookup}
use Rattle.std.specs.declared.alloc.Global.{Global}
use Rattle.std.specs.declared.vec.Vec.{Vec}
use Rattle.scopes.specs.Scopes.{NameText}
use Rattle.scopes.specs.declared.scope.Entity.TheVariants as entity
use Rattle.shaped_trees.specs.declared.constants.Constant.{Constant}
use Rattle.sizing.specs.declared.environment.Object.{Object}
use Rattle.syntax_tree.specs.Expressions.{plain_expression_of}
use Rattle.syntax_tree.specs.declared.declarations.ParameterAssignment.{ParameterAssignment}
use Rattle.syntax_tree.specs.declared.declarations.ParameterDeclaration.{ParameterDeclaration}
use Rattle.design_scopes.specs.Designs.{names_at_scope, full_name_at, DeclaresObject}
use Rattle.design_scopes.specs.Values.{IsParameter}
use Rattle.design_scopes.specs.declared.call_values.CallValue.{CallValue}
use Rattle.design_scopes.specs.declared.scoped.ScopedDesign.{ScopedDesign}
use Rattle.hierarchy.specs.declared.elaboration.Elaboration.{Elaboration}
use Rattle.hierarchy.specs.declared.parameters.Given.{Given}
use Rattle.hierarchy.specs.declared.parameters.Parameters.{Parameters}

-- the value that is given to a parameter, by its full name
abbrev pub value_among : List (String Global × Given) → NameText → Option Constant
value_among entries full = option_map (λ g. g.value) (lookup (λ key. bytes_eq full (string_bytes key)) entries)

-- the first of two values that is there
abbrev pub first_value : Option Constant → Option Constant → Option Constant
first_value None other = other
first_value (Some value) other = Some value

-- the value that a parameter is given from elsewhere: by `defparam`, or else by `#( )` or from outside of the text (12.2)
abbrev pub value_given : Parameters → NameText → Option Constant
value_given ps full = first_value (value_among ps.by_defparam.entries full) (value_among ps.by_instance.entries full)

-- a local parameter is given none (4.10.2)
abbrev pub IsGivenParameter : Bool → Option Constant → Option Constant → Type 0
IsGivenParameter true elsewhere given = given ≡ None
IsGivenParameter false elsewhere given = given ≡ elsewhere

-- a design that knows the values of these calls of constant functions
abbrev pub with_calls : ScopedDesign → Vec CallValue Global → ScopedDesign
with_calls d calls = record d { calls = calls }

-- A scope declares a parameter, with the value that it is given from elsewhere, or else with that of its declaration, by the values of the
-- calls of constant functions in it.
pub record DeclaresParameter (old new : Elaboration) (scope : ℕ) (source : ParameterDeclaration) (assignment : ParameterAssignment) : Type 0 where
  pub given : Option Constant
  pub object : Object
  pub calls : Vec CallValue Global
  pub elsewhere : IsGivenParameter source.local (value_given old.parameters (full_name_at old.design scope assignment.identifier.name.items)) given
  pub parameter : IsParameter (names_at_scope (with_calls old.design calls) scope) source given (plain_expression_of assignment.value) object
  pub declares : DeclaresObject old.design new.design scope assignment.identifier.name.items entity.Object object

-- The full names of the variables of a design.
use Rattle.std.specs.Prelude.{◌≡◌, ◌≢◌, ℕ, List, [], ◌∷◌, ◌++◌, map, Option, None, Some, string_bytes, AllPairs, Contains}
use Rattle.std.specs.Borrow.{Bor}
use Rattle.std.specs.Option.{option_to_list}
use Rattle.std.specs.List.{flat_map}
use Rattle.sizing.specs.declared.environment.ObjectValue.{ObjectValue}
use Rattle.sizing.specs.declared.environment.ObjectValue.TheVariants as worth
use Rattle.sizing.specs.declared.environment.Object.{Object}
use Rattle.design_scopes.specs.declared.faults.Wrong.TheVariants as wrong
use Rattle.design_scopes.specs.declared.faults.DesignFault.{DesignFault}
use Rattle.design_scopes.specs.declared.faults.DesignFault.TheVariants as fault

-- the full name of a variable; a constant has none
abbrev pub name_by : ObjectValue → Option (List ℕ)
name_by (worth.Constant v) = None
name_by (worth.Variable name) = Some (string_bytes name)

abbrev pub object_name : Object → Option (List ℕ)
object_name o = name_by o.value

-- the full names of all variables among objects, in their order
abbrev pub variable_names : List Object → List (List ℕ)
variable_names objects = flat_map (λ o. option_to_list (object_name o)) objects

-- names as the program holds them
abbrev pub held_texts : List (Bor (List ℕ)) → List (List ℕ)
held_texts names = map (λ name. name.now) names

-- A name goes behind those that are there, where it isn't among them.
abbrev pub AddsName : List (Bor (List ℕ)) → List (Bor (List ℕ)) → List ℕ → Type 0
AddsName old new name = (held_texts new ≡ held_texts old ++ name ∷ []) × (Contains (held_texts old) name → ⊥)

-- The name of an object goes behind those that are there, where it has one.
abbrev pub AddsNameOf : List (Bor (List ℕ)) → List (Bor (List ℕ)) → Option (List ℕ) → Type 0
AddsNameOf old new None = held_texts new ≡ held_texts old
AddsNameOf old new (Some name) = AddsName old new name

-- A name is there.
abbrev pub HasName : List (Bor (List ℕ)) → List ℕ → Type 0
HasName old name = Contains (held_texts old) name

-- The name of an object is there.
abbrev pub HasNameOf : List (Bor (List ℕ)) → Option (List ℕ) → Type 0
HasNameOf old None = ⊥
HasNameOf old (Some name) = HasName old name

-- It is told that a name is declared twice only where two variables have one name. Else only want of memory is told.
abbrev pub IsToldSame : List Object → DesignFault → Type 0
IsToldSame objects fault.Memory = Unit {0}
IsToldSame objects (fault.At token w) = (w ≡ wrong.DeclaredTwice) × (AllPairs (λ a b. a ≢ b) (variable_names objects) → ⊥)
IsToldSame objects fault.NoTopModule = ⊥
IsToldSame objects fault.UnknownTopParameter = ⊥

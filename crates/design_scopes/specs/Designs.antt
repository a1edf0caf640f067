-- What becomes of a design where a name is declared, or a scope opened (IEEE 1364-2005, 12.7).
use Rattle.std.specs.Prelude.{◌≡◌, ℕ, ◌≤◌, List, [], ◌∷◌, ◌++◌, map, length, Option, Bool, string_bytes}
use Rattle.ranges.specs.declared.range.VectorRange.{VectorRange}
use Rattle.scopes.specs.declared.fault.ScopeFault.{ScopeFault}
use Rattle.scopes.specs.declared.fault.ScopeFault.TheVariants as refused
use Rattle.scopes.specs.declared.scope.Entity.{Entity}
use Rattle.scopes.specs.declared.scope.Entity.TheVariants as entity
use Rattle.scopes.specs.Scopes.{NameText, scope_head, scope_names, head_at, no_head}
use Rattle.scopes.specs.Names.{full_name}
use Rattle.scopes.specs.Trees.{Declares, ScopesGrow}
use Rattle.sizing.specs.Names.{Names}
use Rattle.sizing.specs.declared.environment.ObjectValue.TheVariants as worth
use Rattle.sizing.specs.declared.environment.Object.{Object}
use Rattle.syntax_tree.specs.declared.declarations.Declarator.{Declarator}
use Rattle.syntax_tree.specs.declared.declarations.PortKind.{PortKind}
use Rattle.syntax_tree.specs.declared.declarations.PortKind.TheVariants as port
use Rattle.syntax_tree.specs.declared.declarations.ValueType.{ValueType}
use Rattle.syntax_tree.specs.declared.declarations.VariableKind.{VariableKind}
use Rattle.syntax_tree.specs.declared.declarations.VariableKind.TheVariants as kind
use Rattle.design_scopes.specs.Places.{constant_names}
use Rattle.design_scopes.specs.Values.{IsVariableType}
use Rattle.design_scopes.specs.declared.variables.VariableType.{VariableType}
use Rattle.design_scopes.specs.declared.faults.Wrong.{Wrong}
use Rattle.design_scopes.specs.declared.faults.Wrong.TheVariants as wrong
use Rattle.design_scopes.specs.declared.faults.DesignFault.{DesignFault}
use Rattle.design_scopes.specs.declared.faults.DesignFault.TheVariants as fault
use Rattle.design_scopes.specs.declared.scoped.ScopedDesign.{ScopedDesign}

-- what names mean at a scope of a design in what it declares next
abbrev pub names_at_scope : ScopedDesign → ℕ → Names
names_at_scope d scope = constant_names d.tree.scopes.items d.objects.items d.calls.items scope

-- the full name of what a scope of a design declares
abbrev pub full_name_at : ScopedDesign → ℕ → NameText → NameText
full_name_at d scope name = full_name (head_at d.tree.scopes.items scope).path name

-- a design without any module
pub record IsEmptyDesign (d : ScopedDesign) : Type 0 where
  pub heads : map scope_head d.tree.scopes.items ≡ no_head ∷ []
  pub names : map scope_names d.tree.scopes.items ≡ [] ∷ []
  pub objects : d.objects.items ≡ []
  pub processes : d.processes.items ≡ []
  pub routines : d.routines.items ≡ []

-- A scope declares an object, which stands behind all others. All else stays.
pub record DeclaresObject (old new : ScopedDesign) (scope : ℕ) (name : NameText) (as_entity : ℕ → Entity) (o : Object) : Type 0 where
  pub objects : new.objects.items ≡ old.objects.items ++ o ∷ []
  pub declares : Declares old.tree.scopes.items new.tree.scopes.items scope name (as_entity (length old.objects.items))
  pub grows : ScopesGrow old.tree.scopes.items new.tree.scopes.items
  pub processes : new.processes.items ≡ old.processes.items

-- A variable of a full name stands behind all other objects.
abbrev pub AddsVariable : ScopedDesign → ScopedDesign → NameText → Bool → Option VectorRange → Type 0
AddsVariable old new full signed range =
    (text : _) × (string_bytes text ≡ full)
    × (new.objects.items ≡ old.objects.items ++ record { signed = signed; range = range; value = worth.Variable text } ∷ [])

-- A scope declares a variable, whose name in the flat module is its full name.
abbrev pub DeclaresVariable : ScopedDesign → ScopedDesign → ℕ → NameText → (ℕ → Entity) → Bool → Option VectorRange → Type 0
DeclaresVariable old new scope name as_entity signed range =
    (text : _) × (string_bytes text ≡ full_name_at old scope name)
    × DeclaresObject old new scope name as_entity (record { signed = signed; range = range; value = worth.Variable text })

-- Variables of one type are declared, one after another.
pub data DeclaresEach (scope : ℕ) (as_entity : ℕ → Entity) (signed : Bool) (range : Option VectorRange) : List NameText → ScopedDesign → ScopedDesign → Type 0 where
  declares_none : (d : ScopedDesign) → DeclaresEach scope as_entity signed range [] d d
  declares_more : (old mid new : ScopedDesign) (name : NameText) (names : List NameText) → DeclaresVariable old mid scope name as_entity signed range → DeclaresEach scope as_entity signed range names mid new
      → DeclaresEach scope as_entity signed range (name ∷ names) old new

-- the names of declarators
abbrev pub declarator_names : List Declarator → List NameText
declarator_names = map (λ d. d.identifier.name.items)

-- The variables of a declaration are declared, all of its type (4.2.1).
pub record DeclaresVariables (old new : ScopedDesign) (scope : ℕ) (of_kind : VariableKind) (v : ValueType) (names : List NameText) : Type 0 where
  pub found : VariableType
  pub is : IsVariableType (names_at_scope old scope) of_kind v found
  pub each : DeclaresEach scope entity.Object found.signed found.range names old new

-- what an argument is that is declared so: a register, unless it is said to be another variable (10.2.1, 10.4.1)
abbrev pub argument_kind : PortKind → VariableKind
argument_kind (port.Variable of_kind) = of_kind
argument_kind (port.Net net) = kind.Register
argument_kind port.Unstated = kind.Register

-- what is told, at a token, of a scope or a name that can't be added
abbrev pub IsToldAs : ScopeFault → ℕ → DesignFault → Type 0
IsToldAs refused.NoScope token told = told ≡ fault.At token wrong.ManyScopes
IsToldAs refused.DeclaredTwice token told = told ≡ fault.At token wrong.DeclaredTwice
IsToldAs refused.Deep token told = told ≡ fault.At token wrong.Deep
IsToldAs refused.ManyScopes token told = told ≡ fault.At token wrong.ManyScopes
IsToldAs refused.NoText token told = told ≡ fault.At token wrong.NoText
IsToldAs refused.Memory token told = told ≡ fault.Memory

-- the most variables and constants of a design, and the most processes
abbrev pub most_objects : ℕ
most_objects = 65536

abbrev pub most_placed_processes : ℕ
most_placed_processes = 16384

-- It is told at a token that there are too many only where there are as many as may be. Else only want of memory is told.
abbrev pub IsToldFull : Wrong → ℕ → ℕ → ℕ → DesignFault → Type 0
IsToldFull w most count token fault.Memory = Unit {0}
IsToldFull w most count token (fault.At place found) = (place ≡ token) × (found ≡ w) × (most ≤ count)
IsToldFull w most count token fault.NoTopModule = ⊥
IsToldFull w most count token fault.UnknownTopParameter = ⊥

-- A scope or a name isn't added, and what is told of it is so.
abbrev pub IsToldWhy : (ScopeFault → Type 0) → ℕ → DesignFault → Type 0
IsToldWhy Is token told = (found : ScopeFault) × Is found × IsToldAs found token told

-- What names mean at a scope of a design (IEEE 1364-2005, 12.5 to 12.7).
use Rattle.std.specs.Prelude.{ℕ, ℤ, ◌==◌, if◌then◌else◌, List, Option, None, Some, slice_get, position, option_and_then, option_map}
use Rattle.std.specs.Str.{bytes_eq}
use Rattle.scopes.specs.declared.scope.Entity.{Entity}
use Rattle.scopes.specs.declared.scope.Entity.TheVariants as entity
use Rattle.scopes.specs.declared.scope.NameScope.{NameScope}
use Rattle.scopes.specs.declared.scope.Reach.TheVariants as reach
use Rattle.scopes.specs.Scopes.{declared_in}
use Rattle.scopes.specs.Names.{found, first_scope, next_scope}
use Rattle.sizing.specs.declared.environment.Object.{Object}
use Rattle.sizing.specs.Names.{Names}
use Rattle.design_scopes.specs.declared.places.Turn.{Turn}
use Rattle.design_scopes.specs.declared.call_values.CallValue.{CallValue}
use Rattle.design_scopes.specs.declared.places.ScopePlace.{ScopePlace}

-- the number of an object, where a name stands for one
abbrev pub object_of : Entity → Option ℕ
object_of (entity.Scope number) = None
object_of (entity.Scopes first count) = None
object_of (entity.Object number) = Some number
object_of (entity.Event number) = None
object_of entity.LoopVariable = None

-- the object that a name stands for
abbrev pub object_number : Option Entity → Option ℕ
object_number e = option_and_then object_of e

-- what a name stands for in a scope, or where no scope is told from this one outwards (12.7)
abbrev pub entity_from : List NameScope → ℕ → Option ℕ → List ℕ → Option Entity
entity_from scopes place None name = found scopes reach.Instance place name
entity_from scopes place (Some scope) name = declared_in scopes scope name

-- the scope that a name stands for, in a scope, or where none is told from this one outwards (12.5, 12.6)
abbrev pub scope_from : List NameScope → ℕ → Option ℕ → List ℕ → Option ℤ → Option ℕ
scope_from scopes place None name index = first_scope scopes place name index
scope_from scopes place (Some scope) name index = next_scope scopes scope name index

-- the variable of a generate loop in its head, under its name alone (12.4.1)
abbrev pub turn_object : Option Turn → Option ℕ → List ℕ → Option Object
turn_object None within name = None
turn_object (Some turn) None name = if bytes_eq turn.name.now name then Some turn.object.now else None
turn_object (Some turn) (Some scope) name = None

-- the object at a number, if there is one
abbrev pub object_at : List Object → Option ℕ → Option Object
object_at objects number = option_and_then (slice_get objects) number

abbrev pub or_object : Option Object → Option Object → Option Object
or_object None other = other
or_object (Some o) other = Some o

-- the object that a name stands for at a place: in a generate loop's head its variable, and else what is declared
abbrev pub object_from : ScopePlace → Option ℕ → List ℕ → Option Object
object_from place within name =
    or_object (turn_object place.turn within name)
    (object_at place.objects.now (object_number (entity_from place.tree.now.scopes.items place.scope within name)))

-- what holds the value of the call at a token, where it is known
abbrev pub call_among : List CallValue → ℕ → Option Object
call_among calls token = option_map (λ call. call.object) (option_and_then (slice_get calls) (position (λ call. call.token == token) calls))

-- what names mean at a place
abbrev pub means : ScopePlace → Names
means place = record {
  scope = λ within name index. scope_from place.tree.now.scopes.items place.scope within name index;
  object = λ within name. object_from place within name;
  call = λ token. call_among place.calls.now token;
}

-- what names mean at a scope, for constant expressions the values of whose calls are known
abbrev pub constant_names : List NameScope → List Object → List CallValue → ℕ → Names
constant_names scopes objects calls place = record {
  scope = λ within name index. scope_from scopes place within name index;
  object = λ within name. object_at objects (object_number (entity_from scopes place within name));
  call = λ token. call_among calls token;
}

-- what names mean at a scope
abbrev pub names_in_scope : List NameScope → List Object → ℕ → Names
names_in_scope scopes objects place = record {
  scope = λ within name index. scope_from scopes place within name index;
  object = λ within name. object_at objects (object_number (entity_from scopes place within name));
  call = λ token. None;
}

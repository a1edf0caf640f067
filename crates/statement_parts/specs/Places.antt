-- Where the statements of a design stand.
use Rattle.std.specs.Prelude.{ℕ, Option, None, Some, slice_get, option_and_then}
use Rattle.scopes.specs.declared.scope.Entity.{Entity}
use Rattle.scopes.specs.declared.scope.Entity.TheVariants as entity
use Rattle.scopes.specs.declared.scope.Reach.TheVariants as reach
use Rattle.scopes.specs.Scopes.{NameText, declared_in, head_at}
use Rattle.scopes.specs.Names.{found}
use Rattle.design_scopes.specs.declared.scoped.ScopedDesign.{ScopedDesign}
use Rattle.design_scopes.specs.Places.{names_in_scope}
use Rattle.sizing.specs.Names.{Names}
use Rattle.sizing.specs.Meanings.{meaning}
use Rattle.syntax_tree.specs.Expressions as source
use Rattle.syntax_tree.specs.Expressions.{Expression}
use Rattle.statement_parts.specs.declared.place.Around.{Around}
use Rattle.statement_parts.specs.Surroundings.{Surroundings}

-- the scope that a name stands for, where it stands for one that is no array
abbrev pub scope_number : Option Entity → Option ℕ
scope_number (Some (entity.Scope number)) = Some number
scope_number _ = None

-- the number of the named event that a name stands for
abbrev pub event_number : Option Entity → Option ℕ
event_number (Some (entity.Event number)) = Some number
event_number _ = None

-- what a member of the scope that an expression names stands for, where it names one at a scope (12.5)
abbrev pub member_entity : ScopedDesign → ℕ → Expression → NameText → Option Entity
member_entity design scope base name =
    option_and_then (λ inner. declared_in design.tree.scopes.items inner name) ((meaning (names_in_scope design.tree.scopes.items design.objects.items scope) base).scope None)

-- what an expression stands for at a scope that may name a named event: it is a name, alone or behind the scopes in which it is
abbrev pub event_entity : ScopedDesign → ℕ → Expression → Option Entity
event_entity design scope (source.Name at name) = found design.tree.scopes.items reach.Instance scope name
event_entity design scope (source.Member at base name) = member_entity design scope base name
event_entity design scope e = None

-- where the statements of a design stand
abbrev pub surroundings : ScopedDesign → Surroundings
surroundings design = record {
  names = names_in_scope design.tree.scopes.items design.objects.items;
  inner = λ scope name. scope_number (declared_in design.tree.scopes.items scope name);
  event = λ scope e. option_and_then (slice_get design.objects.items) (event_number (event_entity design scope e));
  path = λ scope. (head_at design.tree.scopes.items scope).path;
}

-- what names mean where a statement stands
abbrev pub names_around : Around → Names
names_around around = (surroundings around.design.now).names around.scope

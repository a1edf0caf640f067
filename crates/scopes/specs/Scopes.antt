-- Scopes and the names that they declare (IEEE 1364-2005, 12.7).
use Rattle.std.specs.Prelude.{ℕ, ℤ, List, [], map, Option, None, Some, option_map, string_bytes, slice_get}
use Rattle.std.specs.Str.{bytes_eq}
use Rattle.std.specs.Map.{lookup}
use Rattle.std.specs.declared.vec.Vec.{Vec}
use Rattle.std.specs.declared.alloc.Global.{Global}
use Rattle.scopes.specs.declared.scope.Entity.{Entity}
use Rattle.scopes.specs.declared.scope.NameScope.{NameScope}

-- the bytes of a name
abbrev pub NameText : Type 0
NameText = List ℕ

-- names, each with what it stands for, in the order in which they were declared
abbrev pub DeclaredNames : Type 0
DeclaredNames = List (NameText × Entity)

-- a name as the program holds it, and what it stands for
abbrev pub named_entity : Vec ℕ Global × Entity → NameText × Entity
named_entity e = (e.0.items, e.1)

-- the names that a scope declares
abbrev pub scope_names : NameScope → DeclaredNames
scope_names s = map named_entity s.names.entries

-- what a name stands for among these
abbrev pub meaning : DeclaredNames → NameText → Option Entity
meaning names name = lookup (bytes_eq name) names

-- a scope without its names: the scope around it, if there is one, the name of the module of which it is an instance, if it is one, its
-- index, if it is one of several, how many scopes stand around it, and its full name
pub record Head : Type 0 where
  pub around : Option ℕ
  pub instance_of : Option NameText
  pub index : Option ℤ
  pub depth : ℕ
  pub path : NameText

abbrev pub scope_head : NameScope → Head
scope_head s = record {
  around = s.around;
  instance_of = option_map (λ name. name.items) s.instance_of;
  index = s.index;
  depth = s.depth;
  path = string_bytes s.path;
}

-- what stands for a scope that there isn't: it has no name, and nothing around it
abbrev pub no_head : Head
no_head = record { around = None; instance_of = None; index = None; depth = 0; path = [] }

abbrev pub head_of_some : Option NameScope → Head
head_of_some None = no_head
head_of_some (Some s) = scope_head s

-- the scope with a number
abbrev pub head_at : List NameScope → ℕ → Head
head_at scopes k = head_of_some (slice_get scopes k)

abbrev pub names_of_some : Option NameScope → DeclaredNames
names_of_some None = []
names_of_some (Some s) = scope_names s

-- the names that the scope with a number declares
abbrev pub names_at : List NameScope → ℕ → DeclaredNames
names_at scopes k = names_of_some (slice_get scopes k)

-- what the scope with a number itself declares under a name
abbrev pub declared_in : List NameScope → ℕ → NameText → Option Entity
declared_in scopes k name = meaning (names_at scopes k) name

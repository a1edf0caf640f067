-- Full names, and what names stand for where they are used (IEEE 1364-2005, 12.5 to 12.7).
use Rattle.std.specs.Prelude.{ℕ, zero, suc, ℤ, ◌+◌, ◌||◌, ◌&&◌, ◌==◌, nat_le, Bool, false, if◌then◌else◌, List, [], ◌∷◌, ◌++◌, take, drop, position, Option, None, Some, option_map, is_some}
use Rattle.std.specs.Option.{option_map_or}
use Rattle.std.specs.Str.{bytes_eq}
use Rattle.std.specs.Ordering.{int_eq}
use Rattle.std.specs.List.{list_all}
use Rattle.scopes.specs.declared.scope.Entity.{Entity}
use Rattle.scopes.specs.declared.scope.Entity.TheVariants as entity
use Rattle.scopes.specs.declared.scope.NameScope.{NameScope}
use Rattle.scopes.specs.declared.scope.Reach.{Reach}
use Rattle.scopes.specs.declared.scope.Reach.TheVariants as reach
use Rattle.scopes.specs.Scopes.{NameText, Head, scope_head, head_at, declared_in}

-- a letter or a low line (3.7)
abbrev pub may_begin_name : ℕ → Bool
may_begin_name b = ((nat_le 97 b && nat_le b 122) || (nat_le 65 b && nat_le b 90)) || (b == 95)

-- a letter, a low line, a digit or a dollar sign (3.7)
abbrev pub is_word : ℕ → Bool
is_word b = (may_begin_name b || (nat_le 48 b && nat_le b 57)) || (b == 36)

-- a simple identifier begins with a letter or a low line (3.7)
abbrev pub is_simple_identifier : NameText → Bool
is_simple_identifier [] = false
is_simple_identifier (b ∷ bs) = may_begin_name b && list_all is_word bs

-- a name as it stands in a full name: an escaped one with its `\` and a space behind it (3.7.1)
abbrev pub spelled_name : NameText → NameText
spelled_name name = if is_simple_identifier name then name else 92 ∷ (name ++ 32 ∷ [])

-- what stands behind the full name of a scope: a dot, and nothing behind that of the design
abbrev pub dot_behind : NameText → NameText
dot_behind [] = []
dot_behind (b ∷ bs) = 46 ∷ []

-- the full name of what a scope declares: the scope's, a dot and its own
abbrev pub full_name : NameText → NameText → NameText
full_name path name = (path ++ dot_behind path) ++ spelled_name name

-- where a name is looked for that a scope doesn't declare: in the scope around it, and with the reach of an instance not beyond
-- the instance of a module
abbrev pub outwards : Reach → Head → Option ℕ
outwards reach.Instance head = if is_some head.instance_of then None else head.around
outwards reach.Design head = head.around

-- what comes behind a scope, where there is one around it
abbrev pub further : (ℕ → List ℕ) → Option ℕ → List ℕ
further others None = []
further others (Some outer) = others outer

-- a scope and those around it, nearest first, at most so many of these
abbrev pub outwards_within : ℕ → List NameScope → Reach → ℕ → List ℕ
outwards_within zero scopes asked k = k ∷ []
outwards_within (suc most) scopes asked k = k ∷ further (outwards_within most scopes asked) (outwards asked (head_at scopes k))

-- the scopes in which a name is looked for that is used in a scope, nearest first (12.7). Each scope has a greater number than
-- the one around it, so there are no more around it than its number.
abbrev pub scopes_outwards : List NameScope → Reach → ℕ → List ℕ
scopes_outwards scopes asked k = outwards_within k scopes asked k

-- the first of two that is there
abbrev pub or_else : Option Entity → Option Entity → Option Entity
or_else None other = other
or_else (Some e) other = Some e

-- what a name stands for in the first of these scopes in which it stands for something
abbrev pub first_among : (ℕ → Option Entity) → List ℕ → Option Entity
first_among here [] = None
first_among here (k ∷ ks) = or_else (here k) (first_among here ks)

-- what a name stands for that is used in a scope (12.7)
abbrev pub found : List NameScope → Reach → ℕ → NameText → Option Entity
found scopes asked k name = first_among (λ j. declared_in scopes j name) (scopes_outwards scopes asked k)

-- whether a scope is an instance of a module of this name
abbrev pub is_instance_of : NameText → Head → Bool
is_instance_of name head = option_map_or (bytes_eq name) head.instance_of false

-- what the first part of a hierarchical name stands for in a scope: what it declares under it, or else the scope itself, where it is an
-- instance of a module of this name (12.6)
abbrev pub first_here : List NameScope → NameText → ℕ → Option Entity
first_here scopes name k = or_else (declared_in scopes k name) (if is_instance_of name (head_at scopes k) then Some (entity.Scope k) else None)

-- what the first part of a hierarchical name stands for that is used in a scope (12.6)
abbrev pub first_found : List NameScope → ℕ → NameText → Option Entity
first_found scopes k name = first_among (first_here scopes name) (scopes_outwards scopes reach.Design k)

-- whether a scope has this index among several
abbrev pub has_index : Option ℤ → Head → Bool
has_index None head = false
has_index (Some i) head = option_map_or (int_eq i) head.index false

-- the number of the first scope with an index, of so many from this one on; none without an index
abbrev pub element : List NameScope → ℕ → ℕ → Option ℤ → Option ℕ
element scopes first count index = option_map (λ k. first + k) (position (λ s. has_index index (scope_head s)) (take count (drop first scopes)))

-- a scope that isn't one of several has no index
abbrev pub unindexed_scope : ℕ → Option ℤ → Option ℕ
unindexed_scope number None = Some number
unindexed_scope number (Some i) = None

-- the scope that a name stands for, with an index where it is one of several (12.4.1, 7.1.5)
abbrev pub scope_of_entity : List NameScope → Entity → Option ℤ → Option ℕ
scope_of_entity scopes (entity.Scope number) index = unindexed_scope number index
scope_of_entity scopes (entity.Scopes first count) index = element scopes first count index
scope_of_entity scopes (entity.Object number) index = None
scope_of_entity scopes (entity.Event number) index = None
scope_of_entity scopes entity.LoopVariable index = None

abbrev pub scope_of : List NameScope → Option Entity → Option ℤ → Option ℕ
scope_of scopes None index = None
scope_of scopes (Some e) index = scope_of_entity scopes e index

-- the scope that the first part of a hierarchical name stands for, where it is used in a scope (12.6)
abbrev pub first_scope : List NameScope → ℕ → NameText → Option ℤ → Option ℕ
first_scope scopes k name index = scope_of scopes (first_found scopes k name) index

-- the scope that a further part of a hierarchical name stands for, behind the scope before it (12.5)
abbrev pub next_scope : List NameScope → ℕ → NameText → Option ℤ → Option ℕ
next_scope scopes k name index = scope_of scopes (declared_in scopes k name) index

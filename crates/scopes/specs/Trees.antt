-- What becomes of the scopes of a design where one is opened, or a name declared.
use Rattle.std.specs.Prelude.{◌≡◌, ◌≢◌, ℕ, ℤ, ◌+◌, ◌<◌, ◌≤◌, List, [], ◌∷◌, ◌++◌, map, length, Option, None, Some}
use Rattle.std.specs.Fmt.{signed_decimal}
use Rattle.scopes.specs.declared.scope.Entity.{Entity}
use Rattle.scopes.specs.declared.scope.Entity.TheVariants as entity
use Rattle.scopes.specs.declared.scope.NameScope.{NameScope}
use Rattle.scopes.specs.Scopes.{NameText, Head, scope_head, head_at, names_at, declared_in}
use Rattle.scopes.specs.Names.{full_name}

-- A scope declares a name that it didn't, behind its others. All else stays.
pub record Declares (old new : List NameScope) (scope : ℕ) (name : NameText) (found : Entity) : Type 0 where
  pub fresh : declared_in old scope name ≡ None
  pub heads : map scope_head new ≡ map scope_head old
  pub here : names_at new scope ≡ names_at old scope ++ (name, found) ∷ []
  pub others : (k : ℕ) → k ≢ scope → names_at new k ≡ names_at old k

-- the full name of one of several scopes, with its index
abbrev pub indexed : NameText → Option ℤ → NameText
indexed path None = path
indexed path (Some i) = ((path ++ 91 ∷ []) ++ signed_decimal i) ++ 93 ∷ []

-- the scope that is opened in another one under a name, as an instance of a module where it is one, with an index where it is one of
-- several
abbrev pub opened : Head → ℕ → NameText → Option NameText → Option ℤ → Head
opened outer around name instance_of index = record {
  around = Some around;
  instance_of = instance_of;
  index = index;
  depth = outer.depth + 1;
  path = indexed (full_name outer.path name) index;
}

-- Scopes are opened in another one, which declares their name. They have the next numbers, and no names. All else stays.
pub record OpensAll (old new : List NameScope) (around : ℕ) (name : NameText) (instance_of : Option NameText) (indices : List (Option ℤ)) (found : Entity) : Type 0 where
  pub fresh : declared_in old around name ≡ None
  pub heads : map scope_head new ≡ map scope_head old ++ map (opened (head_at old around) around name instance_of) indices
  pub here : names_at new around ≡ names_at old around ++ (name, found) ∷ []
  pub others : (k : ℕ) → k ≢ around → names_at new k ≡ names_at old k

-- One scope is opened.
abbrev pub Opens : List NameScope → List NameScope → ℕ → NameText → Option NameText → Type 0
Opens old new around name instance_of = OpensAll old new around name instance_of (None ∷ []) (entity.Scope (length old))

-- Several are, one for each index.
abbrev pub OpensSeveral : List NameScope → List NameScope → ℕ → NameText → Option NameText → List ℤ → Type 0
OpensSeveral old new around name instance_of indices = OpensAll old new around name instance_of (map Some indices) (entity.Scopes (length old) (length indices))

-- What is declared stays so, and scopes stay as they are but for names that are new.
pub record ScopesGrow (old new : List NameScope) : Type 0 where
  pub more : length old ≤ length new
  pub heads : (k : ℕ) → k < length old → head_at new k ≡ head_at old k
  pub names : (k : ℕ) (name : NameText) (found : Entity) → declared_in old k name ≡ Some found → declared_in new k name ≡ Some found

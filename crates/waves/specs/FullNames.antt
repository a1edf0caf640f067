-- The full names of scopes and of what stands in them, between whose parts dots stand (IEEE 1364-2005, 12.4).
use Rattle.std.specs.Prelude.{◌≡◌, ℕ, ◌==◌, ◌&&◌, Bool, true, false, not, if◌then◌else◌, List, [], ◌∷◌, map, Option, Some, None}
use Rattle.std.specs.Borrow.{Bor}
use Rattle.model.specs.Syntax.{Text}

-- what stands behind a byte is in an escaped name, which a \ begins and a space ends (3.7.1)
abbrev pub escaped_behind : Bool → Bool → ℕ → Bool
escaped_behind escaped begins b = if escaped then not (b == 32) else (begins && (b == 92))

-- a dot parts names, but not in an escaped one
abbrev pub is_parting_dot : Bool → ℕ → Bool
is_parting_dot escaped b = not escaped && (b == 46)

-- what stands before and behind the last dot that parts a full name
abbrev pub parted_first : Bool → List ℕ → Option (Text × Text)
parted_first true behind = Some ([], behind)
parted_first false behind = None

abbrev pub parted_here : Bool → ℕ → List ℕ → Option (Text × Text) → Option (Text × Text)
parted_here parts b bs (Some last) = Some (b ∷ last.0, last.1)
parted_here parts b bs None = parted_first parts bs

abbrev pub parted : Bool → Bool → List ℕ → Option (Text × Text)
parted escaped begins [] = None
parted escaped begins (b ∷ bs) = parted_here (is_parting_dot escaped b) b bs (parted (escaped_behind escaped begins b) (is_parting_dot escaped b) bs)

abbrev pub before_dot : Option (Text × Text) → Text
before_dot (Some last) = last.0
before_dot None = []

abbrev pub behind_dot : Text → Option (Text × Text) → Text
behind_dot name (Some last) = last.1
behind_dot name None = name

-- the full name of the scope in which something stands, by the full name of that; nothing where it stands in none
abbrev pub scope_of_name : Text → Text
scope_of_name name = before_dot (parted false true name)

-- the name of something in its scope
abbrev pub name_in_scope : Text → Text
name_in_scope name = behind_dot name (parted false true name)

-- a register is shown whose name doesn't begin with a $
abbrev pub is_shown_name : Text → Bool
is_shown_name [] = true
is_shown_name (b ∷ bs) = not (b == 36)

-- these are the full names of the scopes in which registers of such names stand
abbrev pub AreHomes : List Text → List (Bor (List ℕ)) → Type 0
AreHomes names homes = map (λ (home : Bor (List ℕ)). home.now) homes ≡ map scope_of_name names

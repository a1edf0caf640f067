-- The registers that a list of names means.
use Rattle.std.specs.Prelude.{◌≡◌, ◌≢◌, ℕ, zero, suc, ◌+◌, List, [], ◌∷◌, ◌++◌, Some, slice_get}
use Rattle.wavetexts.specs.declared.names.NamedRegisters.{NamedRegisters}
use Rattle.wavetexts.specs.declared.names.NamedRegisters.TheVariants.{All, Unknown}

-- no register has this name
abbrev pub IsNoName : List (List ℕ) → List ℕ → Type 0
IsNoName names name = (register : ℕ) → slice_get names register ≢ Some name

-- these are the registers with the names of a list, between which commas stand
pub data NamesRegisters (names : List (List ℕ)) : List ℕ → List ℕ → Type 0 where
  last : (name : List ℕ) (register : ℕ) → slice_get names register ≡ Some name → NamesRegisters names name (register ∷ [])
  more : (name rest : List ℕ) (register : ℕ) (registers : List ℕ) → slice_get names register ≡ Some name → NamesRegisters names rest registers → NamesRegisters names (name ++ 44 ∷ rest) (register ∷ registers)

-- this is the first name of such a list that no register has
pub data NamesUnknown (names : List (List ℕ)) (unknown : List ℕ) : List ℕ → Type 0 where
  alone : IsNoName names unknown → NamesUnknown names unknown unknown
  here : (rest : List ℕ) → IsNoName names unknown → NamesUnknown names unknown (unknown ++ 44 ∷ rest)
  later : (name rest : List ℕ) (register : ℕ) → slice_get names register ≡ Some name → NamesUnknown names unknown rest → NamesUnknown names unknown (name ++ 44 ∷ rest)

-- these are the registers that a list of names means, or this is the first name that no register has
abbrev pub AreNamed : List (List ℕ) → List ℕ → NamedRegisters → Type 0
AreNamed names text (All registers) = NamesRegisters names text registers.items
AreNamed names text (Unknown name) = NamesUnknown names name.now text

-- so many registers from one on
abbrev pub registers_from : ℕ → ℕ → List ℕ
registers_from first zero = []
registers_from first (suc count) = first ∷ registers_from (first + 1) count

-- The registers as they are known, and what writes make of them.
use Rattle.std.specs.Prelude.{◌≡◌, ℕ, ◌+◌, ◌<◌, min, List, ◌++◌, map, length, slice_index_or}
use Rattle.std.specs.List.{All}
use Rattle.logic4.specs.Vector.{Vector, unknown}
use Rattle.model.specs.Expressions.{value_of}
use Rattle.model.specs.Runs.{changes_of, values_in}
use Rattle.turn.specs.Evaluate.{written}
use Rattle.steps.specs.declared.cells.VersionedValue.{VersionedValue}
use Rattle.steps.specs.declared.entry_account.Reading.{Reading}
use Rattle.steps.specs.declared.entry_account.Changed.{Changed}
use Rattle.steps.specs.Accounts.{greatest_version, changed_from}

-- the values of the registers
abbrev pub cell_values : List VersionedValue → List Vector
cell_values cells = map (λ c. c.value) cells

-- the version that is known of a register
abbrev pub version_at : List VersionedValue → ℕ → ℕ
version_at cells r = slice_index_or (map (λ c. c.version) cells) r 0

-- a register as it is known
abbrev pub reading_in : List VersionedValue → ℕ → Reading
reading_in cells r = record { register = r; value = value_of (cell_values cells) r; version = version_at cells r }

-- registers after these changes, as they are known: each value, and as many versions more as there are changes
pub record HasChanged (old : List VersionedValue) (changes : List (ℕ × Vector)) (new : List VersionedValue) : Type 0 where
  pub values : cell_values new ≡ written (cell_values old) changes
  pub versions : (r k : ℕ) → version_at old r ≡ min k greatest_version
      → version_at new r ≡ min (k + length (values_in r changes)) greatest_version

-- registers after these changes, and the changes told behind others
pub record IsChangedBy (old : List VersionedValue) (changes : List (ℕ × Vector)) (before : List Changed) (new : List VersionedValue) (after : List Changed) : Type 0 where
  pub changed : HasChanged old changes new
  pub told : after ≡ before ++ changed_from (cell_values old) changes

-- registers after these writes, of which those that change one are told behind other changes
abbrev pub AreWritten : List VersionedValue → List (ℕ × Vector) → List Changed → List VersionedValue → List Changed → Type 0
AreWritten old writes before new after = IsChangedBy old (changes_of (cell_values old) writes) before new after

-- each write is of one of so many registers
abbrev pub AllWritesIn : ℕ → List (ℕ × Vector) → Type 0
AllWritesIn count writes = All (λ w. w.0 < count) writes

-- a register at the start: all x, at version 0
abbrev pub first_cell : ℕ → VersionedValue
first_cell width = record { value = unknown width; version = 0 }

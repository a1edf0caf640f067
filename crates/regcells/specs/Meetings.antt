-- What was seen of the registers, and what was read, and what a seat has met, against all values that the registers had.
use Rattle.std.specs.Prelude.{◌≡◌, ◌⊎◌, ℕ, ◌+◌, ◌<◌, List, [], length, Some, slice_get, slice_index_or}
use mathlib.Core.List.{IsPrefix}
use Rattle.logic4.specs.Vector.{Vector}
use Rattle.turn.specs.declared.memory.Seen.{Seen}

-- the values of a register that were seen
abbrev pub fresh_of : List (List Vector) → ℕ → List Vector
fresh_of fresh r = slice_index_or fresh r []

-- of each register what was seen has grown, if anything
abbrev pub HaveGrown : List (List Vector) → List (List Vector) → Type 0
HaveGrown old new = (r : ℕ) → IsPrefix (fresh_of old r) (fresh_of new r)

-- the recorded version is that of the last value
abbrev pub IsCurrentOf : List (List Vector) → ℕ × Seen → Type 0
IsCurrentOf all d = length (fresh_of all d.0) ≡ d.1.version + 1

-- a register is the first of those recorded whose version isn't the recorded one
pub record IsFirstMovedOf (all : List (List Vector)) (reads : List (ℕ × Seen)) (r : ℕ) : Type 0 where
  pub at : ℕ
  pub read : ℕ × Seen
  pub there : slice_get reads at ≡ Some read
  pub register : read.0 ≡ r
  pub moved : IsCurrentOf all read → ⊥
  pub before : (k : ℕ) (d : ℕ × Seen) → k < at → slice_get reads k ≡ Some d → IsCurrentOf all d

-- of each register the seat has seen what it had seen, or all, which begins with that
abbrev pub Met : List (List Vector) → List (List Vector) → List (List Vector) → Type 0
Met old all new = (r : ℕ) → (fresh_of new r ≡ fresh_of old r) ⊎ ((fresh_of new r ≡ fresh_of all r) × IsPrefix (fresh_of old r) (fresh_of all r))

-- of each register that was read the seat has seen all
abbrev pub HasMetReads : List (List Vector) → List (List Vector) → List (ℕ × Seen) → Type 0
HasMetReads all new reads = (k : ℕ) (d : ℕ × Seen) → slice_get reads k ≡ Some d → fresh_of new d.0 ≡ fresh_of all d.0

-- of each register that was written the seat has seen all
abbrev pub HasMetWrites : List (List Vector) → List (List Vector) → List (ℕ × Vector) → Type 0
HasMetWrites all new writes = (k : ℕ) (d : ℕ × Vector) → slice_get writes k ≡ Some d → fresh_of new d.0 ≡ fresh_of all d.0

-- each register that was read is one of so many
abbrev pub AreReadsIn : ℕ → List (ℕ × Seen) → Type 0
AreReadsIn n reads = (k : ℕ) (d : ℕ × Seen) → slice_get reads k ≡ Some d → d.0 < n

-- each register that was written is one of so many
abbrev pub AreWritesIn : ℕ → List (ℕ × Vector) → Type 0
AreWritesIn n writes = (k : ℕ) (d : ℕ × Vector) → slice_get writes k ≡ Some d → d.0 < n

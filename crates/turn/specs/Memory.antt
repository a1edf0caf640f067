-- What a turn knows of the registers, by their numbers, and what it has read.
use Rattle.std.specs.Prelude.{◌≡◌, ℕ, List, Option, Some, None, nat_eq, slice_index_or, slice_set}
use Rattle.logic4.specs.Vector.{Vector}
use Rattle.indexmap.specs.IndexMap.{insert_entry}
use Rattle.turn.specs.declared.memory.Seen.{Seen}

-- a look at a register of which this is known: that value, or else a read, which is recorded
abbrev pub LooksUpAt : Option Vector → List (Option Vector) → List (ℕ × Seen) → ℕ → Vector → List (Option Vector) → List (ℕ × Seen) → Type 0
LooksUpAt (Some w) known reads r v known' reads' = (v ≡ w) × (known' ≡ known) × (reads' ≡ reads)
LooksUpAt None known reads r v known' reads' =
    (s : Seen) × ((v ≡ s.value) × (known' ≡ slice_set known r (Some v)) × (reads' ≡ insert_entry nat_eq reads r s))

-- a look at a register
abbrev pub LooksUp : List (Option Vector) → List (ℕ × Seen) → ℕ → Vector → List (Option Vector) → List (ℕ × Seen) → Type 0
LooksUp known reads r v known' reads' = LooksUpAt (slice_index_or known r None) known reads r v known' reads'

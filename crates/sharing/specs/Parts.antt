-- Chunks by their numbers, and the byte strings that numbers stand for.
use Rattle.std.specs.Prelude.{◌≡◌, ℕ, zero, suc, ◌+◌, ◌*◌, ◌<◌, ◌≤◌, List, [], ◌∷◌, ◌++◌, length, map, get_or, flat_map, Some, slice_get, slice_range}
use Rattle.std.specs.List.{All}
use Rattle.sharing.specs.declared.chunks.ChunkSpan.{ChunkSpan}
use Rattle.sharing.specs.declared.chunks.Chunks.{Chunks}
use Rattle.sharing.specs.declared.parts.Parts.{Parts}
use Rattle.sharing.specs.declared.parts.Shortened.{Shortened}

-- the bytes of a row
abbrev pub chunk : List ℕ → ChunkSpan → List ℕ
chunk arena row = slice_range arena row.begin (row.begin + row.length)

-- the chunks, by their numbers
abbrev pub chunks : Chunks → List (List ℕ)
chunks held = map (chunk held.arena.items) held.rows.items

-- the bytes of each row are there
abbrev pub AreChunks : Chunks → Type 0
AreChunks held = (k : ℕ) (row : ChunkSpan) → slice_get held.rows.items k ≡ Some row → row.begin + row.length ≤ length held.arena.items

-- the second list is the first one, with more after it
abbrev pub Extends : {X : Type 0} → List X → List X → Type 0
Extends {X} old new = (added : List X) × (new ≡ old ++ added)

-- the chunks of these numbers, one behind the other
abbrev pub joined_chunks : List (List ℕ) → List ℕ → List ℕ
joined_chunks chunks numbers = flat_map (λ n. get_or chunks n []) numbers

-- there is a chunk for each of these numbers
abbrev pub AreThere : List (List ℕ) → List ℕ → Type 0
AreThere chunks numbers = All (λ n. n < length chunks) numbers

-- the numbers that bytes tell, four bytes each, the lowest first
abbrev pub numbers_in : List ℕ → List ℕ
numbers_in (a ∷ b ∷ c ∷ d ∷ bytes) = (a + b * 256 + c * 65536 + d * 16777216) ∷ numbers_in bytes
numbers_in _ = []

-- What numbers stand for: their chunks, one behind the other; and at each level above that, what the numbers stand for that these
-- bytes tell.
abbrev pub told : List (List ℕ) → ℕ → List ℕ → List ℕ
told chunks zero numbers = joined_chunks chunks numbers
told chunks (suc levels) numbers = told chunks levels (numbers_in (joined_chunks chunks numbers))

-- at each level there is a chunk for each number
abbrev pub HaveChunks : List (List ℕ) → ℕ → List ℕ → Type 0
HaveChunks chunks zero numbers = AreThere chunks numbers
HaveChunks chunks (suc levels) numbers = AreThere chunks numbers × HaveChunks chunks levels (numbers_in (joined_chunks chunks numbers))

-- the chunks of a table of parts
abbrev pub chunk_table : Parts → List (List ℕ)
chunk_table held = chunks held.chunks

-- a table of parts holds the bytes of each of its chunks
abbrev pub AreParts : Parts → Type 0
AreParts held = AreChunks held.chunks

-- the whole byte string that was shortened to this
abbrev pub unshortened : List (List ℕ) → Shortened → List ℕ
unshortened chunk_table short = told chunk_table short.levels (short.number ∷ [])

-- these parts hold all that the whole string is made of
abbrev pub HoldsWhole : List (List ℕ) → Shortened → Type 0
HoldsWhole chunk_table short = HaveChunks chunk_table short.levels (short.number ∷ [])

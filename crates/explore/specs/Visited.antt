-- What was visited.
use Rattle.std.specs.Prelude.{◌≡◌, ℕ, List, map, Option, Some, slice_get}
use Rattle.sharing.specs.Parts.{chunk_table, unshortened, AreParts, HoldsWhole}
use Rattle.explore.specs.declared.visited.Visit.{Visit}
use Rattle.explore.specs.declared.visited.Visited.{Visited}

-- the number of a visit's text, and the whole of its key
abbrev pub visit : List (List ℕ) → Visit → ℕ × List ℕ
visit chunks row = (row.text, unshortened chunks row.key)

-- the visits, by the numbers of the nodes
abbrev pub visits : Visited → List (ℕ × List ℕ)
visits held = map (visit (chunk_table held.parts)) held.rows.keys

-- the parts of each key are there
pub record AreVisits (held : Visited) : Type 0 where
  pub are_parts : AreParts held.parts
  pub held_keys : (k : ℕ) (row : Visit) → slice_get held.rows.keys k ≡ Some row → HoldsWhole (chunk_table held.parts) row.key

-- the visit with a number has this text and this key
abbrev pub IsThere : (ℕ × List ℕ) → List (ℕ × List ℕ) → ℕ → Type 0
IsThere visit visits number = slice_get visits number ≡ Some visit

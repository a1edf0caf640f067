-- The texts that have numbers.
use Rattle.std.specs.Prelude.{◌≡◌, ℕ, ◌<◌, ◌≤◌, List, [], ◌∷◌, ◌++◌, flat_map, get_or, length, map, Some, slice_get, vec_items}
use Rattle.sharing.specs.Parts.{Extends}
use Rattle.explore.specs.Grown.{grown_all}
use Rattle.explore.specs.declared.line_groups.LineGroups.{LineGroups}
use Rattle.explore.specs.declared.text_table.TextEdge.{TextEdge}
use Rattle.explore.specs.declared.text_table.TextTable.{TextTable}

-- the bytes of the groups, by their numbers
abbrev pub line_groups : LineGroups → List (List ℕ)
line_groups held = map vec_items held.groups.keys

-- the bytes of the groups with these numbers, one behind the other
abbrev pub joined_groups : List (List ℕ) → List ℕ → List ℕ
joined_groups groups numbers = flat_map (λ n. get_or groups n []) numbers

-- the text that an edge goes on from, and the bytes of its group
abbrev pub text_step : List (List ℕ) → TextEdge → ℕ × List ℕ
text_step groups edge = (edge.before, get_or groups edge.group [])

-- the texts, by their numbers
abbrev pub texts : TextTable → List (List ℕ)
texts held = grown_all ([] ∷ []) (map (text_step (line_groups held.groups)) held.edges.keys)

-- each edge goes on from a text that was there before it, by a group that is there
pub record AreTextEdges (groups : List (List ℕ)) (edges : List TextEdge) : Type 0 where
  pub after : (k : ℕ) (edge : TextEdge) → slice_get edges k ≡ Some edge → edge.before ≤ k
  pub grouped : (k : ℕ) (edge : TextEdge) → slice_get edges k ≡ Some edge → edge.group < length groups

-- the edges of a table are such
abbrev pub IsTexts : TextTable → Type 0
IsTexts held = AreTextEdges (line_groups held.groups) held.edges.keys

-- In a table that grew from another, this is the number of the text that goes on from one by these bytes; each text that was there has its number still.
pub record HasLonger (old new : TextTable) (before : ℕ) (bytes : List ℕ) (number : ℕ) : Type 0 where
  pub ok : IsTexts new
  pub grows : Extends (texts old) (texts new)
  pub within : number < length (texts new)
  pub text : get_or (texts new) number [] ≡ get_or (texts old) before [] ++ bytes

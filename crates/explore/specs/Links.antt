-- The nodes to which the ways from a node lead.
use Rattle.std.specs.Prelude.{◌≡◌, ℕ, ◌<◌, suc, List, [], length, Bool, true, false, Option, Some, get_or, slice_get, ◌⊎◌}
use Rattle.std.specs.List.{Any}
use Rattle.explore.specs.Lineage.{ways}
use Rattle.explore.specs.Pieces.{pieces}
use Rattle.explore.specs.declared.lineage.Lineage.{Lineage}
use Rattle.explore.specs.declared.links.SearchEdge.{SearchEdge}
use Rattle.explore.specs.declared.links.Links.{Links}

-- an edge leads from one node to another
abbrev pub IsEdge : ℕ → ℕ → SearchEdge → Type 0
IsEdge from to edge = (edge.from ≡ from) × (edge.to ≡ to)

-- the node is there, and an edge leads to it
abbrev pub IsEdgeTo : ℕ → Option ℕ → List SearchEdge → Type 0
IsEdgeTo from to edges = (there : ℕ) × (to ≡ Some there) × Any (IsEdge from there) edges

-- the run with the second number is a step from the one with the first
abbrev pub IsRunStep : {Move : Type 0} → List (ℕ × List Move) → ℕ → ℕ → Type 0
IsRunStep {Move} steps from to = (k : ℕ) × (moves : List Move) × (to ≡ suc k) × (slice_get steps k ≡ Some (from, moves))

-- one of the ways from a node leads to another, by the step of its run or by an edge
abbrev pub IsLinked : {Move : Type 0} → List (ℕ × List Move) → List SearchEdge → ℕ → ℕ → Type 0
IsLinked steps edges from to = IsRunStep steps from to ⊎ Any (IsEdge from to) edges

-- the node with a number has no mark
abbrev pub IsUnmarked : List Bool → ℕ → Type 0
IsUnmarked marks k = get_or marks k true ≡ false

-- where the node at the beginning of an edge has no mark, that at its end has none
abbrev pub GoesBack : List Bool → SearchEdge → Type 0
GoesBack marks edge = IsUnmarked marks edge.from → IsUnmarked marks edge.to

-- At no node without a mark may a run end, and the ways from such a node lead to such nodes alone.
pub record AreClosed {Move : Type 0} (steps : List (ℕ × List Move)) (links : Links) (marks : List Bool) : Type 0 where
  pub ends : (k : ℕ) → IsUnmarked marks k → IsUnmarked links.may_end.items k
  pub linked : (from to : ℕ) → IsLinked steps links.edges.items from to → IsUnmarked marks from → IsUnmarked marks to

-- These are the moves of a run at whose node no end is reached: it has no mark, and marks are closed.
pub record IsNeverEnding {Move : Type 0} (lineage : Lineage Move) (links : Links) (moves : List Move) : Type 0 where
  pub marks : List Bool
  pub closed : AreClosed (pieces lineage.steps) links marks
  pub number : ℕ
  pub unmarked : IsUnmarked marks number
  pub within : number < length (ways lineage)
  pub moves_are : moves ≡ get_or (ways lineage) number []

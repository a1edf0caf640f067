-- Nodes, each at the run with its number.
use Rattle.std.specs.Prelude.{◌≡◌, ℕ, ◌<◌, List, [], length, get_or}
use Rattle.std.specs.List.{All}
use Rattle.explore.specs.Lineage.{ways, IsLineage}
use Rattle.explore.specs.SearchedRuns.{Runs}
use Rattle.explore.specs.declared.again.Nodes.{Nodes}
use Rattle.explore.specs.declared.lineage.Lineage.{Lineage}
use Rattle.explore.specs.declared.recent.Placed.{Placed}

-- this is the node of the run with a number
abbrev pub IsNodeAt : {Node : Type 0} → ℕ → Node → Placed Node → Type 0
IsNodeAt number node placed = (placed.number ≡ number) × (placed.node ≡ node)

-- a node stands at the run with its number
pub record IsPlaced {Move Node End : Type 0} (runs : Runs Move Node End) (ways : List (List Move)) (placed : Placed Node) : Type 0 where
  pub within : placed.number < length ways
  pub stands : runs.Stands placed.node (get_or ways placed.number [])

-- at each run some node stands
abbrev pub AreStood : {Move Node End : Type 0} → Runs Move Node End → List (List Move) → Type 0
AreStood {Move} {Node} runs ways = (k : ℕ) → k < length ways → (node : Node) × runs.Stands node (get_or ways k [])

-- the run with this number was reached, and at each run that was reached some node stands
pub record IsReachedRun {Move Node End : Type 0} (runs : Runs Move Node End) (lineage : Lineage Move) (number : ℕ) : Type 0 where
  pub whole : IsLineage lineage
  pub within : number < length (ways lineage)
  pub stood : AreStood runs (ways lineage)

-- the newest nodes and the checkpoints stand at the runs with their numbers
pub record ArePlaced {Move Node End : Type 0} (runs : Runs Move Node End) (ways : List (List Move)) (nodes : Nodes Node) : Type 0 where
  pub newest : All (IsPlaced runs ways) nodes.newest.nodes.items
  pub checkpoints : All (IsPlaced runs ways) nodes.checkpoints.nodes.items

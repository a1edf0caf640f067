-- The runs that a lineage holds.
use Rattle.std.specs.Prelude.{◌≡◌, ℕ, ◌≤◌, List, [], ◌∷◌, Some, slice_get}
use Rattle.explore.specs.Grown.{grown_all}
use Rattle.explore.specs.Pieces.{pieces, ArePieces}
use Rattle.explore.specs.declared.lineage.Lineage.{Lineage}

-- the moves of the runs, by their numbers
abbrev pub ways : {Move : Type 0} → Lineage Move → List (List Move)
ways lineage = grown_all ([] ∷ []) (pieces lineage.steps)

-- each step goes on from a run that was there before it
pub record IsLineage {Move : Type 0} (lineage : Lineage Move) : Type 0 where
  pub whole : ArePieces lineage.steps
  pub after : (k : ℕ) (step : ℕ × List Move) → slice_get (pieces lineage.steps) k ≡ Some step → step.0 ≤ k

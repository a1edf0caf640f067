use Rattle.std.proofs.Common.{ℕ, drop}
use Rattle.shaped_trees.specs.Constants.{HasTotal}
use Rattle.shaped_trees.proofs.Evaluated.{trees}
use Rattle.shaped_trees.proofs.evaluation.+own_size.Given as goal

abbrev pub invariant-total_size-loop-part : goal.invariant-total_size-loop-part
invariant-total_size-loop-part l = (s : ℕ) → HasTotal l.size (trees (drop l.part-index l.parts)) s → HasTotal l.initial.size (trees l.parts) s

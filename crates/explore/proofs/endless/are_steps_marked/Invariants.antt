use Rattle.std.proofs.Common.{ℕ, ◌<◌}
use Rattle.explore.specs.Links.{IsRunStep, IsUnmarked}
use Rattle.explore.specs.Pieces.{pieces}
use Rattle.explore.proofs.endless.are_steps_marked.Given as goal

abbrev pub invariant-loop-number : goal.invariant-loop-number
invariant-loop-number g l = (from to : ℕ) → to < l.number → IsRunStep (pieces l.lineage.steps) from to → IsUnmarked l.marks from → IsUnmarked l.marks to

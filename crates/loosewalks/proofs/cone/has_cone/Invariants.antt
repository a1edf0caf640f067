-- Those that were looked at have their outputs in the cone, or aren't moved.
use Rattle.std.proofs.Common.{ℕ, ◌<◌, get_or}
use Rattle.loosewalks.specs.Held.{HasConeAt}
use Rattle.loosewalks.proofs.cone.has_cone.Given as goal

abbrev pub invariant-loop-process : goal.invariant-loop-process
invariant-loop-process l = (k d : ℕ) → k < l.process-index → HasConeAt l.network l.pending l.touched l.cone (get_or l.held k d)

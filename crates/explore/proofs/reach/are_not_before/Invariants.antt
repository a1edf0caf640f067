use Rattle.std.proofs.Common.{ℕ, ◌<◌, ◌≤◌, get_or}
use Rattle.explore.specs.declared.kept.Reached.{Reached}
use Rattle.explore.proofs.reach.are_not_before.Given as goal

abbrev pub invariant-loop-reached : goal.invariant-loop-reached
invariant-loop-reached l = (k : ℕ) (d : Reached) → k < l.reached-index → l.time ≤ get_or l.links.times.items (get_or l.pending k d).number 0

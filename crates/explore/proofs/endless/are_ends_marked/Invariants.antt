use Rattle.std.proofs.Common.{ℕ, ◌<◌}
use Rattle.explore.specs.Links.{IsUnmarked}
use Rattle.explore.proofs.endless.are_ends_marked.Given as goal

abbrev pub invariant-loop-number : goal.invariant-loop-number
invariant-loop-number l = (k : ℕ) → k < l.number → IsUnmarked l.marks k → IsUnmarked l.links.may_end.items k

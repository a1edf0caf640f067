use Rattle.std.proofs.Common.{◌<◌, length}
use Rattle.explore.specs.Lineage.{ways}
use Rattle.explore.proofs.lineage.Lineage.passes.Given as goal

abbrev pub invariant-loop-k : goal.invariant-loop-k
invariant-loop-k g l = record { within : l.k < length (ways l.self) }

abbrev pub decreases-loop-k : goal.decreases-loop-k
decreases-loop-k g l = l.k

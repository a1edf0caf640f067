use Rattle.std.proofs.Common.{◌<◌, length}
use Rattle.std.specs.List.{All}
use Rattle.explore.specs.Lineage.{ways}
use Rattle.explore.proofs.lineage.Lineage.passed.Given as goal

abbrev pub invariant-loop-k : goal.invariant-loop-k
invariant-loop-k g l =
    record {
      within : l.k < length (ways l.self);
      all : All (λ k. k < length (ways l.self)) l.passed.items;
    }

abbrev pub decreases-loop-k : goal.decreases-loop-k
decreases-loop-k g l = l.k

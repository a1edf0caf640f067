use Rattle.std.proofs.Common.{◌≡◌, ◌<◌, ◌++◌, [], length, get_or, reverse}
use Rattle.explore.specs.Lineage.{ways}
use Rattle.explore.proofs.lineage.Lineage.way_from.Given as goal

abbrev pub invariant-loop-k : goal.invariant-loop-k
invariant-loop-k g l =
    record {
      within : l.k < length (ways l.self);
      rest : get_or (ways l.self) l.number [] ≡ get_or (ways l.self) l.k [] ++ reverse l.back.items;
    }

abbrev pub decreases-loop-k : goal.decreases-loop-k
decreases-loop-k g l = l.k

use Rattle.std.proofs.Common.{◌≡◌, ◌≢◌, ◌<◌, ℕ, Some}
use Rattle.std.specs.Prelude.{slice_get}
use Rattle.combinational.specs.declared.block.Logic.{Logic}
use Rattle.combinational.specs.Found.{AreRanked}
use Rattle.combinational.proofs.network.is_ranked.Given as goal

-- it is apart from those so far
abbrev pub invariant-loop-at : goal.invariant-loop-at
invariant-loop-at l =
    (q : ℕ) (other : Logic) → q < l.at → l.process ≢ q → slice_get l.network.logics.items q ≡ Some (Some other) → AreRanked l.network.ranks.items l.process q l.one other

use Rattle.std.proofs.Common.{◌≡◌, ◌≢◌, ◌<◌, ℕ, Some}
use Rattle.std.specs.Prelude.{slice_get}
use Rattle.combinational.specs.declared.block.Logic.{Logic}
use Rattle.combinational.specs.Found.{AreRanked}
use Rattle.combinational.proofs.network.first_offender.Given as goal

-- those so far are apart from all
abbrev pub invariant-loop-at : goal.invariant-loop-at
invariant-loop-at l =
    (p q : ℕ) (one other : Logic) → p < l.at → p ≢ q → slice_get l.network.logics.items p ≡ Some (Some one) → slice_get l.network.logics.items q ≡ Some (Some other) → AreRanked l.network.ranks.items p q one other

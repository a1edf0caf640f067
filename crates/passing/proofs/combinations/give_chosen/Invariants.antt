-- The store agrees with what was chosen first.
use Rattle.std.proofs.Common.{◌≡◌, length, take}
use Rattle.passing.specs.Combinations.{AgreesWithChosen}
use Rattle.passing.proofs.combinations.give_chosen.Given as goal

abbrev pub invariant-loop-place : goal.invariant-loop-place
invariant-loop-place l = record {
  agrees : AgreesWithChosen l.is_after (take l.place l.chosen) l.store;
  count : length l.store ≡ length l.fn.store;
}

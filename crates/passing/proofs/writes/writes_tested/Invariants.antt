-- The first writes were made, and their changes pass.
use Rattle.std.proofs.Common.{◌≡◌, take}
use Rattle.orders.specs.Apart.{all_given}
use Rattle.footprints.specs.Footprints.{changes_made}
use Rattle.heldways.specs.Passing.{AllPass}
use Rattle.passing.specs.Moves.{passes_by}
use Rattle.passing.proofs.writes.writes_tested.Given as goal

abbrev pub invariant-loop-place : goal.invariant-loop-place
invariant-loop-place l = record {
  made : l.store ≡ all_given l.fn.store (take l.place l.writes);
  passes : AllPass (passes_by l.moves) (changes_made l.fn.store (take l.place l.writes));
}

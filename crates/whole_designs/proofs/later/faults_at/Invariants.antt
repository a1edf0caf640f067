-- The faults of the places so far.
use Rattle.std.proofs.Common.{◌≡◌, map, take}
use Rattle.whole_designs.specs.Refusals.{later_fault}
use Rattle.whole_designs.proofs.later.faults_at.Given as goal

abbrev pub invariant-loop-place : goal.invariant-loop-place
invariant-loop-place l = l.faults.items ≡ map (later_fault l.tokens) (take l.place-index l.places)

-- A token of what is left is one of all.
use Rattle.std.proofs.Common.{ℕ, map, length}
use Rattle.locations.specs.PlainSpots.{plain_spot}
use Rattle.diagnosis.specs.FaultLocations.{wants, IsSpotAt}
use Rattle.diagnosis.proofs.wanted.find.Given as goal

abbrev pub invariant-loop-left : goal.invariant-loop-left
invariant-loop-left l = (byte : ℕ) → IsSpotAt (wants l.wanted) (map plain_spot l.left) byte → IsSpotAt (wants l.wanted) (map plain_spot l.spots) byte

abbrev pub decreases-loop-left : goal.decreases-loop-left
decreases-loop-left l = length l.left

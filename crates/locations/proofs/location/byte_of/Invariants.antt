-- The byte that is found from here on is the one that is found in all.
use Rattle.std.proofs.Common.{◌≡◌, map, length}
use Rattle.locations.specs.PlainSpots.{plain_spot}
use Rattle.locations.specs.SourceLocations.{byte_of}
use Rattle.locations.proofs.location.byte_of.Given as goal

abbrev pub invariant-loop-left : goal.invariant-loop-left
invariant-loop-left l = byte_of (map plain_spot l.spots) l.end l.initial.number ≡ byte_of (map plain_spot l.left) l.end l.number

abbrev pub decreases-loop-left : goal.decreases-loop-left
decreases-loop-left l = length l.left

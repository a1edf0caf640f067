-- The processes found and those of what is left are all.
use Rattle.std.proofs.Common.{◌≡◌, ◌++◌, map, length}
use Rattle.locations.specs.PlainSpots.{plain_spot}
use Rattle.locations.specs.SourceLocations.{plain_process, process_list}
use Rattle.locations.proofs.location.processes.Given as goal

abbrev pub invariant-loop-left : goal.invariant-loop-left
invariant-loop-left l = map plain_process l.found.items ++ process_list l.source (map plain_spot l.left) ≡ process_list l.source (map plain_spot l.initial.left)

abbrev pub decreases-loop-left : goal.decreases-loop-left
decreases-loop-left l = length l.left

-- As many as have a number of those that were looked at, which are no more than these.
use Rattle.std.proofs.Common.{◌≡◌, ◌≤◌, length, take}
use Rattle.naming.specs.Naming.{numbered_races}
use Rattle.naming.proofs.naming.numbered_found.Given as goal

abbrev pub invariant-loop-place : goal.invariant-loop-place
invariant-loop-place l = (l.count ≡ length (numbered_races (take l.place l.races))) × (l.count ≤ l.place)

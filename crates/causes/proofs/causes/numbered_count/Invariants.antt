-- As many as have a number of those that were looked at, which are no more than these.
use Rattle.std.proofs.Common.{◌≡◌, ◌≤◌, length, take}
use Rattle.causes.specs.Causes.{numbered_causes}
use Rattle.causes.proofs.causes.numbered_count.Given as goal

abbrev pub invariant-loop-place : goal.invariant-loop-place
invariant-loop-place l = (l.count ≡ length (numbered_causes (take l.place l.causes))) × (l.count ≤ l.place)

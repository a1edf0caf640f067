use Rattle.std.proofs.Common.{◌≡◌, ◌+◌, ◌++◌, drop}
use Rattle.program.specs.Findings.{stops_from}
use Rattle.program.proofs.stops.stops_of.Given as goal

abbrev pub invariant-loop-place : goal.invariant-loop-place
invariant-loop-place l = l.stops.items ++ stops_from (l.place + 1) (drop l.place l.shown) ≡ stops_from 1 l.shown

use Rattle.std.proofs.Common.{◌≡◌, ◌++◌, map, drop}
use Rattle.model.specs.Elaboration.{width_of}
use Rattle.elaborate.proofs.names.widths.Given as goal

abbrev pub invariant-loop-place : goal.invariant-loop-place
invariant-loop-place l = l.widths.items ++ map width_of (drop l.place l.ranges) ≡ map width_of l.ranges

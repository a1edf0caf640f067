-- The way was added with each of the others so far.
use Rattle.std.proofs.Common.{◌≡◌, ◌++◌, map, take}
use Rattle.looseparts.specs.FoundWays.{ways_in}
use Rattle.looseparts.proofs.found.add_each_behind.Given as goal

abbrev pub invariant-loop-other : goal.invariant-loop-other
invariant-loop-other l =
    ways_in l.ways.items ≡ ways_in l.initial.ways.items ++ map (λ other. l.way ++ other) (ways_in (take l.other-index l.others))

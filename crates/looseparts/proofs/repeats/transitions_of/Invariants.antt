-- The transitions of the ways so far.
use Rattle.std.proofs.Common.{◌≡◌, take}
use Rattle.looseparts.specs.FoundWays.{ways_in}
use Rattle.looseparts.specs.GoneWays.{ways_of}
use Rattle.looseparts.proofs.repeats.transitions_of.Given as goal

abbrev pub invariant-loop-gone : goal.invariant-loop-gone
invariant-loop-gone l = ways_in l.ways.items ≡ ways_of (take l.gone-index l.kept)

-- The ways so far were gone.
use Rattle.std.proofs.Common.{[], take}
use Rattle.loose.specs.Classes.{class_in}
use Rattle.looseparts.specs.FoundWays.{ways_in}
use Rattle.looseparts.specs.GoneWays.{AreWaysKept}
use Rattle.looseparts.proofs.repeats.kept_of.Given as goal

abbrev pub invariant-loop-way : goal.invariant-loop-way
invariant-loop-way l = AreWaysKept (class_in l.classes) (record l.machine { lines = [] }) l.over (ways_in (take l.way-index l.ways)) l.kept.items

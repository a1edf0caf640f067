-- Each way so far has each of the others behind it.
use Rattle.std.proofs.Common.{take}
use Rattle.looseparts.specs.PartLaws.{HaveEachBehind}
use Rattle.looseparts.specs.FoundWays.{ways_in}
use Rattle.looseparts.proofs.found.products.Given as goal

abbrev pub invariant-loop-one : goal.invariant-loop-one
invariant-loop-one l = HaveEachBehind (ways_in (take l.one-index l.ones)) (ways_in l.others) (ways_in l.ways.items)

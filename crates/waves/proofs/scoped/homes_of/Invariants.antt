-- The scopes of the registers so far are found.
use Rattle.std.proofs.Common.{take}
use Rattle.waves.specs.FullNames.{AreHomes}
use Rattle.waves.proofs.scoped.homes_of.Given as goal

abbrev pub invariant-loop-register : goal.invariant-loop-register
invariant-loop-register l = AreHomes (take l.register l.design.names) l.homes.items

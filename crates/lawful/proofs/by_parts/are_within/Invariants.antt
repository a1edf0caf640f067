-- The ways so far keep within the limits.
use Rattle.std.proofs.Common.{take}
use Rattle.std.specs.List.{All}
use Rattle.std.specs.Global.{Vec}
use Rattle.loose.specs.declared.transition.LooseTransition.{LooseTransition}
use Rattle.lawful.specs.ByParts.{IsWithin}
use Rattle.lawful.proofs.by_parts.are_within.Given as goal

abbrev pub invariant-loop-way : goal.invariant-loop-way
invariant-loop-way l = All (λ (way : Vec LooseTransition). IsWithin l.limits l.entries way.items) (take l.way-index l.ways)

use Rattle.std.proofs.Common.{◌≡◌, take}
use Rattle.design.proofs.design.Design.controls.Given as goal

abbrev pub invariant-loop-control : goal.invariant-loop-control
invariant-loop-control l = l.controls.items ≡ take l.control-index l.control-items

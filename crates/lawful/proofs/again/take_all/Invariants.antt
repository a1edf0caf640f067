-- The transitions so far were taken.
use Rattle.std.proofs.Common.{take}
use Rattle.orders.specs.Alike.{IsInOrder}
use Rattle.loose.specs.Classes.{class_in}
use Rattle.regions.specs.Machine.{state_at}
use Rattle.lawful.specs.Again.{HasTakenEach}
use Rattle.lawful.proofs.again.take_all.Given as goal

abbrev pub invariant-loop-transition : goal.invariant-loop-transition
invariant-loop-transition l = record {
  order : IsInOrder (state_at l.machine);
  taken : HasTakenEach (class_in l.classes) l.fn.machine (take l.transition-index l.moves) l.machine;
}

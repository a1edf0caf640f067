-- The transitions so far were taken again.
use Rattle.std.proofs.Common.{◌≡◌, take}
use Rattle.orders.specs.Alike.{IsInOrder}
use Rattle.loose.specs.Classes.{class_in}
use Rattle.regions.specs.Machine.{state_at}
use Rattle.loosewalks.specs.Checkpoints.{HasTakenAgain}
use Rattle.loosewalks.proofs.checkpoint.take_again.Given as goal

abbrev pub invariant-loop-transition : goal.invariant-loop-transition
invariant-loop-transition l = record {
  order : IsInOrder (state_at l.machine);
  again : HasTakenAgain (class_in l.classes) l.fn.machine (take l.transition-index l.moves) l.machine;
  code : l.machine.code ≡ l.fn.machine.code;
}

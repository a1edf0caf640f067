-- The transitions so far were taken and seen.
use Rattle.std.proofs.Common.{◌++◌, take}
use Rattle.orders.specs.Alike.{IsInOrder}
use Rattle.loose.specs.Classes.{class_in}
use Rattle.regions.specs.Machine.{state_at}
use Rattle.observers.specs.Observers.{observer_of}
use Rattle.lawful.specs.ArrangedNodes.{HasSeenEach}
use Rattle.lawful.proofs.seen_again.take_all_seen.Given as goal

abbrev pub invariant-loop-transition : goal.invariant-loop-transition
invariant-loop-transition l = record {
  order : IsInOrder (state_at l.machine);
  seen : HasSeenEach (class_in l.seeing.classes.now) (observer_of l.seeing.observing.now) l.fn.machine (take l.transition-index l.moves) l.machine (l.text.items ++ l.machine.lines);
}

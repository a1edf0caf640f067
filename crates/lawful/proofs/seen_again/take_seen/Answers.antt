-- A transition that is taken behind what was told before it.
use Rattle.std.proofs.Common.{sym, subst}
use Rattle.orders.specs.Alike.{IsInOrder}
use Rattle.loose.specs.Classes.{class_in}
use Rattle.regions.specs.Machine.{MachineView, state_at}
use Rattle.observers.specs.Observers.{observer_of}
use Rattle.lawful.proofs.SeenAgain.{seen_one}
use Rattle.lawful.proofs.seen_again.take_seen.Goals as goal

pub take_loosely-requires : goal.take_loosely-requires
take_loosely-requires c = subst (λ (m : MachineView). IsInOrder (state_at m)) (sym c.tell_before.ensures.same) c.requires

pub returns-in_err-tell_before-clause-order : goal.returns-in_err-tell_before-clause-order
returns-in_err-tell_before-clause-order c = subst (λ (m : MachineView). IsInOrder (state_at m)) (sym c.tell_before.ensures.same) c.requires

pub returns-in-Ok-clause-taken : goal.returns-in-Ok-clause-taken
returns-in-Ok-clause-taken c =
    seen_one (class_in c.args.seeing.classes.now) (observer_of c.args.seeing.observing.now) c.args.machine.now c.tell_before.new.machine c.take_loosely.new.machine c.args.text.now.items c.tell_before.new.text.items c.args.transition
    c.requires c.take_loosely.ensures.order c.tell_before.ensures.same c.in_ok-tell_before.ensures.told c.take_loosely.ensures.code c.in-Ok.ensures.taken

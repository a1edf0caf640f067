-- The way that a machine took.
use Rattle.std.proofs.Common.{List, sym, ap, subst}
use Rattle.orders.specs.Alike.{IsInOrder}
use Rattle.loose.specs.declared.transition.LooseTransition.{LooseTransition}
use Rattle.loose.specs.Classes.{class_in}
use Rattle.regions.specs.Machine.{MachineView, state_at}
use Rattle.lawful.specs.Again.{HasTakenEach}
use Rattle.lawful.proofs.ByParts.{way_taken}
use Rattle.lawful.proofs.by_parts.go_way.Goals as goal

pub take_all-requires : goal.take_all-requires
take_all-requires c = subst (λ (p : MachineView). IsInOrder (state_at p)) (sym c.deref_mut.ensures.value) c.requires.order

pub returns : goal.returns
returns c =
    let class = class_in c.args.classes.now in
    let old = c.deref_mut.result.now in
    let new = c.take_all.new.machine in
    let taken = subst (λ (l : List LooseTransition). HasTakenEach class old l new) c.deref.ensures.value c.in_ok-take_all.ensures in
    way_taken class c.args.machine.value old new c.args.way.items c.next_of.result c.deref_mut.ensures.value c.requires.silent taken
    (ap (λ v. v.items) c.next_of.ensures.moves) c.next_of.ensures.printed c.next_of.ensures.ready c.next_of.ensures.state

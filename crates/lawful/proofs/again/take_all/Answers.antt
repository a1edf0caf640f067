-- One transition more.
use Rattle.std.proofs.Common.{List, [], take, get_or, sym, subst, arith}
use Rattle.std.proofs.lemmas.List.{take_all, take_more}
use Rattle.orders.specs.Alike.{IsInOrder}
use Rattle.loose.specs.declared.transition.LooseTransition.{LooseTransition}
use Rattle.loose.specs.declared.transition.LooseTransition.TheVariants.{Process}
use Rattle.loose.specs.Classes.{class_in}
use Rattle.regions.specs.Machine.{MachineView, state_at}
use Rattle.lawful.specs.Again.{HasTakenEach}
use Rattle.lawful.proofs.Remade.{taken_nowhere, taken_more}
use Rattle.lawful.proofs.again.take_all.Goals as goal

pub loop-transition-init : goal.loop-transition-init
loop-transition-init c =
    let class = class_in c.args.classes.now in
    record {
      order = subst (λ (m : MachineView). IsInOrder (state_at m)) (sym c.exchange_log.ensures) c.requires;
      taken = subst (HasTakenEach class c.args.machine.now []) (sym c.exchange_log.ensures) (taken_nowhere class c.args.machine.now c.requires);
    }

pub loop-transition-preserved : goal.loop-transition-preserved
loop-transition-preserved c =
    let moves = c.args.moves.now in
    let at = c.loop-transition.transition-index in
    let class = class_in c.args.classes.now in
    record {
      order = c.take_loosely.ensures.order;
      taken = subst (λ (l : List LooseTransition). HasTakenEach class c.args.machine.now l c.take_loosely.new.machine) (sym (take_more moves at (Process 0) (omega arith)))
          (taken_more class c.args.machine.now c.loop-transition.machine c.take_loosely.new.machine (take at moves) (get_or moves at (Process 0)) c.requires c.loop-transition.invariant.order c.take_loosely.ensures.order c.loop-transition.invariant.taken c.take_loosely.ensures.code c.in-Ok.ensures.taken);
    }

pub returns : goal.returns
returns c =
    let class = class_in c.args.classes.now in
    let m = c.loop-transition.machine in
    let taken : HasTakenEach class c.args.machine.now c.args.moves.now m =
    subst (λ (l : List LooseTransition). HasTakenEach class c.args.machine.now l m) (take_all c.loop-transition.transition-index c.args.moves.now (omega arith)) c.loop-transition.invariant.taken in
    subst (HasTakenEach class c.args.machine.now c.args.moves.now) (sym c.exchange_log-2.ensures) taken

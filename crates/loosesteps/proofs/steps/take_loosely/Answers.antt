-- The entry's step, told as that of its transition in the state before.
use Rattle.std.proofs.Common.{sym, subst}
use Rattle.std.proofs.lemmas.Result.{on_ok_weaker, on_err_weaker, IfErr-weaker}
use Rattle.orders.specs.Alike.{IsInOrder}
use Rattle.loose.specs.Loose.{AlikeIn}
use Rattle.regions.specs.Machine.{MachineView, state_at, IsNotTaken}
use Rattle.loose.specs.Classes.{class_in}
use Rattle.loosesteps.specs.LooselyTaken.{IsNotTakenLoosely}
use Rattle.loosesteps.proofs.AlikeTaken.{machine_taken, stopped_loosely, taken_in_order, order_kept}
use Rattle.loosesteps.proofs.steps.take_loosely.Goals as goal

pub returns-in-Ok-clause-taken : goal.returns-in-Ok-clause-taken
returns-in-Ok-clause-taken c =
    on_ok_weaker c.take.result
    (λ taken. machine_taken (class_in c.args.classes.now) c.args.machine.now c.entry_for.new.machine (state_at c.take.new.self) c.take.new.self.lines c.args.transition c.in-Ok.entry c.entry_for.ensures.rest c.requires c.entry_for.ensures.order c.entry_for.ensures.alike c.in-Ok.ensures.entry taken)
    c.take.ensures.taken

pub returns-in-Ok-clause-stop : goal.returns-in-Ok-clause-stop
returns-in-Ok-clause-stop c =
    let class = class_in c.args.classes.now in
    IfErr-weaker c.take.result (IsNotTaken c.entry_for.new.machine c.in-Ok.entry) (IsNotTakenLoosely class c.args.machine.now c.args.transition)
    (λ fault stop. stopped_loosely class c.args.machine.now c.entry_for.new.machine c.args.transition c.in-Ok.entry fault c.entry_for.ensures.rest c.requires c.entry_for.ensures.order c.entry_for.ensures.alike c.in-Ok.ensures.entry stop)
    c.take.ensures.stop

pub returns-in-Ok-clause-alike : goal.returns-in-Ok-clause-alike
returns-in-Ok-clause-alike c =
    on_err_weaker c.take.result
    (λ same. subst (λ (m : MachineView). AlikeIn (class_in c.args.classes.now) (state_at c.args.machine.now) (state_at m)) (sym same) c.entry_for.ensures.alike)
    c.take.ensures.err

pub returns-in-Ok-clause-order : goal.returns-in-Ok-clause-order
returns-in-Ok-clause-order c =
    order_kept c.take.result c.take.ensures.taken c.take.ensures.err
    (λ taken. taken_in_order c.entry_for.new.machine.code (state_at c.entry_for.new.machine) (state_at c.take.new.self) c.entry_for.new.machine.lines c.take.new.self.lines c.in-Ok.entry c.entry_for.ensures.order taken)
    (λ same. subst (λ (m : MachineView). IsInOrder (state_at m)) (sym same) c.entry_for.ensures.order)

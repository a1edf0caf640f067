-- The active events, of which the first update of the class stands first.
use Rattle.std.proofs.Common.{sym, ap, ◌∙◌, subst}
use Rattle.model.specs.States.{Evaluate}
use Rattle.model.specs.Runs.{least}
use Rattle.orders.specs.Alike.{IsInOrder}
use Rattle.loose.specs.Loose.{AlikeIn}
use Rattle.regions.specs.Find.{update_numbers}
use Rattle.regions.specs.Queue.{Core}
use Rattle.regions.specs.Machine.{MachineView, state_at}
use Rattle.loose.specs.Classes.{class_in}
use Rattle.loosesteps.proofs.ForwardStates.{forward_states, forward_in_order}
use Rattle.loosesteps.proofs.BroughtFirst.{brought_first}
use Rattle.loosesteps.proofs.steps.bring_first.Goals.{After-first_update}
use Rattle.loosesteps.proofs.steps.bring_first.Goals as goal

pub returns-clause-order : goal.returns-clause-order
returns-clause-order c =
    let old = c.args.machine.now in
    let new = c.bring_forward.new.self in
    subst (λ (m : MachineView). IsInOrder (state_at m)) (sym c.bring_forward.ensures.rest)
    (forward_in_order (state_at old) new.core.active c.bring_forward.ensures.brought.numbers c.requires)

pub returns-clause-alike : goal.returns-clause-alike
returns-clause-alike c =
    let old = c.args.machine.now in
    let new = c.bring_forward.new.self in
    subst (λ (m : MachineView). AlikeIn (class_in c.args.classes.now) (state_at old) (state_at m)) (sym c.bring_forward.ensures.rest)
    (forward_states (class_in c.args.classes.now) c.args.class c.in_ok-at.at (Evaluate 0) (state_at old) new.core.active c.in_ok-at.ensures.first (c.bring_forward.ensures.brought.actions (Evaluate 0)))

pub returns-clause-first : goal.returns-clause-first
returns-clause-first c =
    let old = c.args.machine.now in
    let new = c.bring_forward.new.self in
    let order : IsInOrder (state_at new) = subst (λ (m : MachineView). IsInOrder (state_at m)) (sym c.bring_forward.ensures.rest) (forward_in_order (state_at old) new.core.active c.bring_forward.ensures.brought.numbers c.requires) in
    brought_first _ (class_in c.args.classes.now) c.args.class c.in_ok-at.at new.core.next_event (Evaluate 0) c.first_update.result old.core.active new.core.active
    (c.first_update.ensures.least ∙ ap (λ (core : Core). least (update_numbers core.active)) c.state.ensures)
    c.in_ok-at.ensures.first (c.bring_forward.ensures.brought.actions (Evaluate 0)) order.active

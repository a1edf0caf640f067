-- The registers are those of the updates, the members those that are kept, and the outputs theirs.
use Rattle.std.proofs.Common.{ℕ, List, ap, sym, subst, ◌∙◌}
use Rattle.model.specs.Turns.{contains}
use Rattle.settling.specs.Settling.{HaveOutputs}
use Rattle.settling.proofs.Tested.{updates_told}
use Rattle.settling.proofs.held.held_of.Goals as goal

pub may_be_held-requires-clause-each : goal.may_be_held-requires-clause-each
may_be_held-requires-clause-each c = λ p there.
    c.in_ok-members.ensures.each p (c.in_ok-members-2.ensures p (ap (λ (l : List ℕ). contains l p) (sym c.deref-3.ensures.value) ∙ there))

pub may_be_held-requires-clause-outputs : goal.may_be_held-requires-clause-outputs
may_be_held-requires-clause-outputs c =
    let network = c.args.network.now in
    subst (λ members. HaveOutputs network members c.deref-4.result.now) (c.deref-2.ensures.value ∙ sym c.deref-3.ensures.value)
    (subst (HaveOutputs network c.deref-2.result.now) (sym c.deref-4.ensures.value) c.in_ok-outputs.ensures)

pub may_be_held-requires-clause-registers : goal.may_be_held-requires-clause-registers
may_be_held-requires-clause-registers c =
    updates_told c.args.machine.now.core c.state.result.now c.active.result.0.now.items c.active.result.1.now.items c.in_ok-registers.registers.items c.deref-5.result.now c.active.ensures c.state.ensures c.deref-5.ensures.value c.in_ok-registers.ensures

pub returns-clause-subset : goal.returns-clause-subset
returns-clause-subset c = λ p there. c.in_ok-members.ensures.subset p (c.in_ok-members-2.ensures p there)

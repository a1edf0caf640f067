-- The registers of its state are those of its design.
use Rattle.std.proofs.Common.{ℕ, List, length, subst}
use Rattle.design.specs.DesignInvariant.{remainder_of_state}
use Rattle.regions.specs.Queue.{state_of}
use Rattle.regions.specs.Order.{IsOrdered}
use Rattle.regions.specs.Machine.{MachineView, state_at}
use Rattle.regions.proofs.machine.Machine.stands_in_order.Goals as goal

pub returns : goal.returns
returns c =
    let m = c.self.inside in
    let rem = remainder_of_state m.design.now in
    subst (λ (p : MachineView). IsOrdered p.code.widths (length p.core.processes) (state_at p)) c.self.view_is
    (subst (λ (widths : List ℕ). IsOrdered widths (length m.state.processes) (state_of rem m.store m.state)) c.self.invariant.widths (c.stands_in_order.ensures rem m.store))

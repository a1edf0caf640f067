use Rattle.std.proofs.Common.{subst}
use Rattle.design.specs.DesignInvariant.{remainder_of_state}
use Rattle.regions.specs.Machine.{MachineView, state_at, IsDue}
use Rattle.regions.proofs.machine.Machine.due.Goals as goal

pub returns : goal.returns
returns c =
    let m = c.self.inside in
    subst (λ (p : MachineView). IsDue (state_at p) c.due.result) c.self.view_is (c.due.ensures (remainder_of_state m.design.now) m.store)

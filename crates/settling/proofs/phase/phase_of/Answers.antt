-- The registers are those of the updates, and the members those of a phase.
use Rattle.settling.proofs.Tested.{updates_told}
use Rattle.settling.proofs.phase.phase_of.Goals as goal

pub is_phase-requires-clause-registers : goal.is_phase-requires-clause-registers
is_phase-requires-clause-registers c =
    updates_told c.args.machine.now.core c.state-state.result.now c.active.result.0.now.items c.active.result.1.now.items c.in_ok-registers.registers.items c.deref-3.result.now c.active.ensures c.state-state.ensures c.deref-3.ensures.value c.in_ok-registers.ensures

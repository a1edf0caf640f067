-- A process waits at its event control.
use Rattle.std.proofs.Common.{map, sym, subst, ◌≡◌}
use Rattle.design.specs.DesignInvariant.{remainder_of_state}
use Rattle.regions.specs.Queue.{Core, process_wait_of}
use Rattle.noted.proofs.Woken.{awaited_is}
use Rattle.noted.proofs.waking.control_of.Goals as goal

pub returns-in-Some : goal.returns-in-Some
returns-in-Some c =
    let m = c.args.machine.now in
    let ps = c.processes.result.now in
    let are = subst (λ (k : Core). map (process_wait_of k.controls) ps ≡ k.processes) c.state.ensures c.processes.ensures in
    sym (awaited_is (remainder_of_state m.code) m.core ps c.args.process c.in-Some.continuation.now are c.in-Some.ensures.lookup.3.0 c.in-Some.ensures.lookup.1)

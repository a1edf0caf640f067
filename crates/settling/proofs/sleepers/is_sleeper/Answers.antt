-- What the tests say of a process.
use Rattle.std.proofs.Common.{ap, sym, ◌∙◌}
use Rattle.model.specs.States as states
use Rattle.design.specs.DesignInvariant.{controls_of}
use Rattle.regions.specs.declared.queue.Continuation.{Continuation}
use Rattle.regions.specs.ProcessWaking.{triggers_at}
use Rattle.settling.proofs.Places.{process_at}
use Rattle.settling.proofs.Tested.{processes_told}
use Rattle.settling.proofs.sleepers.is_sleeper.Goals as goal

pub returns-in-Some-clause-outside : goal.returns-in-Some-clause-outside
returns-in-Some-clause-outside c = λ on. sym c.is_among.ensures ∙ c.if-is_among.false

pub returns-in-Some-clause-idle : goal.returns-in-Some-clause-idle
returns-in-Some-clause-idle c = λ on. c.is_idle.ensures c.if-not-is_idle.false

pub returns-in-Some-clause-waits : goal.returns-in-Some-clause-waits
returns-in-Some-clause-waits c = λ on.
    let m = c.args.machine.now in
    let x : Continuation = c.in-Some.continuation.now in
    let ps = c.processes.result.now in
    let told = processes_told m.code m.core c.state.result.now m.values ps c.stands.ensures c.processes.ensures c.state.ensures in
    let at = process_at m.code m.core m.values ps c.args.sleeper.process x told c.in-Some.ensures.lookup.3.0 c.in-Some.ensures.lookup.1 in
    ap (λ (y : states.Continuation). y.triggers) at.1 ∙ ap (triggers_at (controls_of m.code)) (c.waits_by.ensures on)

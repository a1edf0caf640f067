-- What the tests say together.
use Rattle.std.proofs.Common.{◌++◌, List, ap, sym, subst, ◌∙◌}
use Rattle.regions.specs.Machine.{state_at}
use Rattle.settling.specs.declared.sleepers.Sleeper.{Sleeper}
use Rattle.settling.specs.Settling.{AreSleepers, sleeping}
use Rattle.settling.proofs.Sleeping.{are_sleepers_so}
use Rattle.settling.proofs.Tested.{sleep_told}
use Rattle.settling.proofs.sleepers.sleepers_of.Goals as goal

pub returns : goal.returns
returns c =
    let m = c.args.machine.now in
    let network = c.args.network.now in
    let members = c.args.members.now in
    let outputs = c.in_ok-outputs.outputs.items in
    let sleepers = c.deref-5.result.now in
    subst (λ (xs : List Sleeper). AreSleepers m.code (state_at m) network members xs) c.deref-5.ensures.value
    (are_sleepers_so m.code (state_at m) network members outputs c.deref-3.result.now sleepers c.in_ok-outputs.ensures
    (c.deref-3.ensures.value ∙ c.in_ok-both.ensures ∙ ap (λ (xs : List Sleeper). members ++ sleeping xs) (c.deref-2.ensures.value ∙ sym c.deref-5.ensures.value))
    (sleep_told m.code c.design.result.now m.core c.state.result.now m.values c.processes.result.now c.event_controls-controls.result.now c.deref-3.result.now c.deref-4.result.now outputs c.design.ensures c.stands.ensures c.event_controls-controls.ensures c.processes.ensures c.state.ensures c.deref-4.ensures.value (c.others_sleep.ensures c.if-not-others_sleep.false))
    (c.are_sleepers.ensures.outside c.if-not-are_sleepers.false) (c.are_sleepers.ensures.idle c.if-not-are_sleepers.false) (c.are_sleepers.ensures.wait c.if-not-are_sleepers.false))

-- What the tests say together.
use Rattle.std.proofs.Common.{sym, ◌∙◌}
use Rattle.regions.specs.Machine.{state_at}
use Rattle.phases.specs.Phase.{updated_in}
use Rattle.settling.proofs.Phases.{is_phase}
use Rattle.settling.proofs.Tested.{sleep_told, inside_told, apart_told}
use Rattle.settling.proofs.phase.is_phase.Goals as goal

pub returns : goal.returns
returns c = λ on.
    let m = c.args.machine.now in
    let s = state_at m in
    let network = c.args.network.now in
    let members = c.args.members.now in
    let registers = c.args.registers.now in
    let outputs = c.in_ok-outputs.outputs.items in
    let us = c.active.result.0.now.items in
    let es = c.active.result.1.now.items in
    is_phase m.code s network members outputs
    (record {
      held = record {
        found = c.requires.found;
        goes_on = c.is_over.ensures c.if-is_over.false;
        apart = apart_told (updated_in s) registers c.deref.result.now outputs c.requires.registers c.deref.ensures.value (c.share.ensures.apart c.if-share.false);
        outputs_are = c.in_ok-outputs.ensures;
        each = c.are_members.ensures on;
      };
      inside = λ p none. sym (inside_told m.core c.state-state.result.now us es p c.active.ensures c.state-state.ensures) ∙ c.are_inside.ensures c.if-not-are_inside.false p none;
      updates_sleep = sleep_told m.code c.design.result.now m.core c.state-state.result.now m.values c.processes.result.now c.event_controls-controls.result.now members registers (updated_in s) c.design.ensures c.stands.ensures c.event_controls-controls.ensures c.processes.ensures c.state-state.ensures c.requires.registers (c.others_sleep.ensures c.if-not-others_sleep.false);
      outputs_sleep = sleep_told m.code c.design.result.now m.core c.state-state.result.now m.values c.processes-2.result.now c.event_controls-controls.result.now members c.deref-2.result.now outputs c.design.ensures c.stands.ensures c.event_controls-controls.ensures c.processes-2.ensures c.state-state.ensures c.deref-2.ensures.value (c.others_sleep-2.ensures c.if-not-others_sleep-2.false);
    })

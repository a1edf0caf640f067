-- What the tests say together.
use Rattle.std.proofs.Common.{refl}
use Rattle.regions.specs.Machine.{state_at}
use Rattle.phases.specs.Phase.{updated_in}
use Rattle.settling.proofs.Phases.{may_be_held}
use Rattle.settling.proofs.Tested.{apart_told}
use Rattle.settling.proofs.held.may_be_held.Goals as goal

pub returns : goal.returns
returns c = λ on.
    let m = c.args.machine.now in
    let s = state_at m in
    let members = c.args.members.now in
    let registers = c.args.registers.now in
    let outputs = c.args.outputs.now in
    may_be_held m.code s c.args.network.now members outputs
    (record {
      found = c.requires.found;
      goes_on = c.is_over.ensures c.if-is_over.false;
      apart = apart_told (updated_in s) registers outputs outputs c.requires.registers refl (c.share.ensures.apart c.if-share.false);
      outputs_are = c.requires.outputs;
      each = c.requires.each;
    })

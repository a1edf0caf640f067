-- Nobody sleeps, or the test says it.
use Rattle.std.proofs.Common.{◌∙◌, sym}
use Rattle.regions.specs.Machine.{state_at}
use Rattle.passing.proofs.Nobody.{nobody_sleeps}
use Rattle.passing.proofs.sleep.sleep_through.Goals as goal

pub returns-then-is_empty : goal.returns-then-is_empty
returns-then-is_empty c = λ on.
    let m = c.args.machine.now in
    let held = c.args.held in
    nobody_sleeps m.code held.network.now held.members.now held.cone.now held.values.now (state_at m).time c.args.notes.now c.args.sleepers.now (sym c.is_empty.ensures ∙ c.if-is_empty.true)

pub returns-in-Pass : goal.returns-in-Pass
returns-in-Pass c = λ on. c.in_ok-moves_tested.ensures c.in-Pass.is

-- The turn was evaluated where the machine stands.
use Rattle.regions.specs.Machine.{state_at, IsTurnLogged}
use Rattle.regions.proofs.Given.{given_log}
use Rattle.conflicts.proofs.recorder.recorder_turn.Goals as goal

pub recorder_step-requires-2-clause-given : goal.recorder_step-requires-2-clause-given
recorder_step-requires-2-clause-given c =
    let m = c.args.run.now.machine in
    let logged : IsTurnLogged m.code (state_at m) c.args.number c.in-Ok-Some.process c.evaluate.new.log = rw c.in-Ok-Some.field-0-is at c.in-Ok-Some.ensures in
    given_log m.code (state_at m) c.args.number c.in-Ok-Some.process c.evaluate.new.log logged

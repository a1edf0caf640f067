-- The note is that of the turn's footprint.
use Rattle.std.proofs.Common.{refl}
use Rattle.model.specs.Turns.{contains}
use Rattle.loose.specs.Classes.{class_in}
use Rattle.regions.specs.Machine.{state_at}
use Rattle.noted.proofs.Noted.{turn_noted, turn_steps}
use Rattle.noted.proofs.taking.take_evaluated.Goals as goal

pub returns-in-Err : goal.returns-in-Err
returns-in-Err c =
    let m = c.args.machine.now in
    record { stop = turn_steps m.code (state_at m) c.args.evaluation.number c.args.evaluation.process c.args.log.now c.requires.logged; same = refl }

pub returns-in-Ok-take_turn : goal.returns-in-Ok-take_turn
returns-in-Ok-take_turn c =
    let m = c.args.machine.now in
    let took = c.in-Ok-take_turn.ensures in
    record {
      taken = took.taken;
      noted = turn_noted (class_in c.args.classes.now) m.code (contains c.args.held.now) (state_at m) c.args.evaluation.number c.args.evaluation.process c.note_turn.new.note c.requires.logged.action c.requires.other c.in-Ok.ensures;
      entries = took.entries;
      made = took.made;
      code = c.take_turn.ensures.code;
      few = took.few;
    }

pub returns-in-Err-take_turn : goal.returns-in-Err-take_turn
returns-in-Err-take_turn c = record { stop = c.in-Err-take_turn.ensures.stop; same = c.in-Err-take_turn.ensures.err }

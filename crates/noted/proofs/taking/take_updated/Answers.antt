-- The note is that of the update's footprint.
use Rattle.std.proofs.Common.{refl}
use Rattle.model.specs.Turns.{contains}
use Rattle.loose.specs.Classes.{class_in}
use Rattle.regions.specs.Machine.{state_at}
use Rattle.noted.proofs.Noted.{update_noted, update_steps}
use Rattle.noted.proofs.taking.take_updated.Goals as goal

pub returns-in-Err : goal.returns-in-Err
returns-in-Err c =
    let m = c.args.machine.now in
    record { stop = update_steps m.code (state_at m) c.args.number c.args.updated c.requires; same = refl }

pub returns-in-Ok-take : goal.returns-in-Ok-take
returns-in-Ok-take c =
    let m = c.args.machine.now in
    let took = c.in-Ok-take.ensures in
    record {
      taken = took.taken;
      noted = update_noted (class_in c.args.classes.now) m.code (contains c.args.held.now) (state_at m) c.args.number c.args.updated.0 c.args.updated.1 c.note_update.new.note c.requires.action c.in-Ok.ensures;
      entries = took.entries;
      made = took.made;
      code = c.take.ensures.code;
      few = took.few;
    }

pub returns-in-Err-take : goal.returns-in-Err-take
returns-in-Err-take c = record { stop = c.in-Err-take.ensures.stop; same = c.in-Err-take.ensures.err }

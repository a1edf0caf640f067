-- Where none is held, the note is that of the footprint.
use Rattle.std.proofs.lemmas.Result.{on_ok_weaker}
use Rattle.loose.specs.Classes.{class_in}
use Rattle.regions.specs.Machine.{state_at}
use Rattle.noted.proofs.Noted.{noted_alone}
use Rattle.noted.proofs.taking.take_noted.Goals as goal

pub returns-clause-noted : goal.returns-clause-noted
returns-clause-noted c =
    on_ok_weaker c.take_noted_beside.result
    (λ h. noted_alone (class_in c.args.classes.now) c.args.machine.now.code (state_at c.args.machine.now) c.args.entry c.take_noted_beside.new.note h)
    c.take_noted_beside.ensures.noted

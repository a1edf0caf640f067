-- What is due is alone.
use Rattle.regions.specs.Machine.{state_at}
use Rattle.loose.specs.Classes.{class_in}
use Rattle.loosewalks.proofs.ActiveEntries.{only_change_step}
use Rattle.loosewalks.proofs.active.only_change.Goals as goal

pub returns-then-is_timely : goal.returns-then-is_timely
returns-then-is_timely c =
    only_change_step (class_in c.args.classes.now) c.args.limits (state_at c.args.machine.now) c.due.result c.in-Some.change c.due.ensures c.requires.idle c.in-Some.is (c.is_timely.ensures.0 c.if-is_timely.true)

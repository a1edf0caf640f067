-- What the machine took is the actor's step.
use Rattle.loose.specs.Classes.{class_in}
use Rattle.looseparts.proofs.ActorSteps.{actor_step}
use Rattle.looseparts.proofs.acting.take_actor.Goals as goal

pub returns-in-Ok-take_noted-clause-taken : goal.returns-in-Ok-take_noted-clause-taken
returns-in-Ok-take_noted-clause-taken c =
    λ done.
    actor_step (class_in c.args.classes.now) c.args.machine.now c.entry_for.new.machine c.take_noted.new.machine c.args.actor c.in-Ok.entry c.take_noted.new.note c.entry_for.ensures.rest c.requires c.entry_for.ensures.order c.entry_for.ensures.alike
    c.in-Ok.ensures.entry c.in-Ok-take_noted.ensures.taken c.in-Ok-take_noted.ensures.noted

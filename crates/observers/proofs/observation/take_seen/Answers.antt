-- An entry that is taken behind what was told, and one that has no step.
use Rattle.observers.specs.Observers.{observer_of}
use Rattle.observers.proofs.Tellings.{taken_observed, untaken_stuck}
use Rattle.observers.proofs.observation.take_seen.Goals as goal

pub returns-in-Ok-clause-taken : goal.returns-in-Ok-clause-taken
returns-in-Ok-clause-taken c =
    λ _.
    taken_observed (observer_of c.args.observing.now) c.args.machine.now c.tell_before.new.machine c.args.text.now.items c.args.entry c.take.new.self c.tell_before.new.text.items
    c.tell_before.ensures.same c.in-Ok.ensures.taken c.in_ok-tell_before.ensures.told c.in-Ok.ensures.entries

pub returns-in-Err-clause-stuck : goal.returns-in-Err-clause-stuck
returns-in-Err-clause-stuck c =
    untaken_stuck c.untaken.result c.in-Err.fault c.args.machine.now c.tell_before.new.machine c.args.entry c.tell_before.ensures.same c.requires.few c.in-Err.ensures.stop
    c.untaken.ensures.stuck

-- At the start nothing was taken.
use Rattle.observers.specs.Observers.{observer_of}
use Rattle.observers.proofs.Tellings.{none_seen}
use Rattle.observers.proofs.observation.observe_from.Goals as goal

pub see_all-requires-clause-begun : goal.see_all-requires-clause-begun
see_all-requires-clause-begun c =
    none_seen (observer_of c.args.observing.now) c.args.journal.now c.new-text.result.items c.args.machine.now c.requires.state c.new-text.ensures.items c.requires.lines c.requires.entries

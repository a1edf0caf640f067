-- The journals that are shown are lawful ones, and what is observed of all of them is shown with the lines of each time in order.
use Rattle.lawful.specs.ArrangedNodes.{registers_seen}
use Rattle.lawful.proofs.ArrangedTexts.{are_arranged, are_arranged_within, shown_arranged}
use Rattle.lawful.proofs.lawful.observed_orders.Goals as goal

pub returns-clause-sound : goal.returns-clause-sound
returns-clause-sound g c = are_arranged c.args.design.now c.args.limits c.args.observing.now c.told_orders.result.shown.items c.told_orders.ensures.journals

pub returns-clause-within : goal.returns-clause-within
returns-clause-within g c = are_arranged_within c.args.design.now c.args.limits c.args.observing.now c.told_orders.result.shown.items c.told_orders.ensures.journals

pub returns-clause-all : goal.returns-clause-all
returns-clause-all g c none journal text end is timely ends few memory =
    shown_arranged (registers_seen c.args.observing.now) c.told_orders.result.shown.items text end (c.told_orders.ensures.all none journal text end is timely ends few memory)

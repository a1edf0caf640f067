-- The journals that are shown are lawful ones, and their texts are all.
use Rattle.lawful.proofs.LawfulTexts.{all_lawful, are_lawful, are_within, shown_among}
use Rattle.lawful.proofs.lawful.lawful_orders.Goals as goal

pub returns-clause-sound : goal.returns-clause-sound
returns-clause-sound g c = are_lawful c.args.design.now c.args.limits c.told_orders.result.shown.items (all_lawful c.args.design.now c.args.limits c.args.known.now c.told_orders.result.shown.items c.requires.known c.told_orders.ensures.journals)

pub returns-clause-within : goal.returns-clause-within
returns-clause-within g c = are_within c.args.design.now c.args.limits c.told_orders.result.shown.items (all_lawful c.args.design.now c.args.limits c.args.known.now c.told_orders.result.shown.items c.requires.known c.told_orders.ensures.journals)

pub returns-clause-all : goal.returns-clause-all
returns-clause-all g c none journal text end is timely ends few memory =
    shown_among c.told_orders.result.shown.items text end (c.told_orders.ensures.all none journal text end is timely ends few memory)

-- One of the entries that the rules permit.
use Rattle.conflicts.proofs.transitions.entry_of.Goals as goal

pub returns-in-Some : goal.returns-in-Some
returns-in-Some c = (c.choices-choices.ensures.permitted c.in-Some.entry).0 c.in-Some.ensures

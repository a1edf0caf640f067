-- The design of the module.
use Rattle.program.proofs.Subjects.{whole_designed}
use Rattle.program.proofs.subject.judged_whole.Goals as goal

pub returns-in-Taken-clause-judged : goal.returns-in-Taken-clause-judged
returns-in-Taken-clause-judged g c =
    whole_designed c.designed.result c.args.texts.files.items c.args.texts.words.now _ c.in-Taken.made c.in_ok-made.ensures.judged c.in-Taken.is c.designed.ensures.judged

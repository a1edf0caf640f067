-- The design with its scopes.
use Rattle.program.proofs.Subjects.{subject_dumped}
use Rattle.program.proofs.waving.dumped_whole.Goals as goal

pub returns-in-Taken-clause-judged : goal.returns-in-Taken-clause-judged
returns-in-Taken-clause-judged g c = subject_dumped c.args.texts.files.items c.args.texts.words.now _ c.in-Taken.subject c.in_ok-subject.ensures.judged c.in-Taken.is

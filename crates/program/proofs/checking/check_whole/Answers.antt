-- The design of the texts.
use Rattle.program.proofs.Subjects.{subject_design}
use Rattle.program.proofs.checking.check_whole.Goals as goal

pub returns-in-Taken-clause-checked : goal.returns-in-Taken-clause-checked
returns-in-Taken-clause-checked g c = λ none.
    (c.in-Taken._subject.design, subject_design c.args.texts.files.items c.args.texts.words.now _ c.in-Taken._subject c.in_ok-_subject.ensures.judged c.in-Taken.is)

-- One part behind another.
use Rattle.telling.specs.FaultLines.{end_of, subject_text}
use Rattle.telling.proofs.Sent.{sends_then, sends_broken}
use Rattle.telling.proofs.telling.send_rest.Goals as goal

pub returns-then-send_subject : goal.returns-then-send_subject
returns-then-send_subject g c =
    sends_then g.E.Write.contents c.args.err.now c.send_subject.new.err c.send_end.new.err (subject_text c.args.line.now.subject) (end_of c.args.line.now) c.send_subject.result c.send_end.result c.if-send_subject.true
    c.send_subject.ensures c.send_end.ensures

pub returns-else-send_subject : goal.returns-else-send_subject
returns-else-send_subject g c = sends_broken g.E.Write.contents c.args.err.now c.send_subject.new.err (subject_text c.args.line.now.subject) (end_of c.args.line.now) c.send_subject.result c.if-send_subject.false c.send_subject.ensures

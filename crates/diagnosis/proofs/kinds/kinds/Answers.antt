-- One note more; all of them at the end.
use Rattle.std.proofs.lemmas.List.{take_all, take_more}
use Rattle.diagnosis.proofs.FirstNotes.{kind_more, kinds_all}
use Rattle.diagnosis.proofs.kinds.kinds.Goals as goal

pub loop-note-preserved : goal.loop-note-preserved
loop-note-preserved c =
    kind_more c.args.notes.now c.loop-note.note-index _ _ _ (take_more c.args.notes.now c.loop-note.note-index _ c.loop-note-test.true) c.loop-note.invariant c.in_ok-add_first.ensures

pub returns : goal.returns
returns c = kinds_all c.args.notes.now c.loop-note.note-index _ (take_all c.loop-note.note-index c.args.notes.now c.loop-note-test.false) c.loop-note.invariant

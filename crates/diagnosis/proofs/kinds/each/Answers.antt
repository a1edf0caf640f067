-- One note more; all of them at the end.
use Rattle.std.proofs.Common.{◌∙◌, ap, map}
use Rattle.std.proofs.lemmas.List.{take_all, take_more}
use Rattle.diagnosis.specs.Kinds.{for_itself}
use Rattle.diagnosis.proofs.FirstNotes.{itself_more}
use Rattle.diagnosis.proofs.kinds.each.Goals as goal

pub loop-note-preserved : goal.loop-note-preserved
loop-note-preserved c =
    itself_more c.args.notes.now c.loop-note.note-index _ _ _ (take_more c.args.notes.now c.loop-note.note-index _ c.loop-note-test.true) c.loop-note.invariant c.in_ok-add_itself.ensures

pub returns : goal.returns
returns c = c.loop-note.invariant ∙ ap (map for_itself) (take_all c.loop-note.note-index c.args.notes.now c.loop-note-test.false)

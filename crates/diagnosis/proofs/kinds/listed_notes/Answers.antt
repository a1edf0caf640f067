-- All notes of the source are listed.
use Rattle.diagnosis.proofs.FirstNotes.{has_listed}
use Rattle.diagnosis.proofs.kinds.listed_notes.Goals as goal

pub returns : goal.returns
returns c = has_listed c.args.source.now c.args.all c.in_ok-notes.notes.items _ c.list.result c.in_ok-notes.ensures c.as_slice.ensures.value c.list.ensures

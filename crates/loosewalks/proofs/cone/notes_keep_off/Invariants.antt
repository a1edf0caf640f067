-- Those that were looked at keep off.
use Rattle.std.proofs.Common.{ℕ, ◌<◌, get_or}
use Rattle.certificates.specs.Notes.{NoteView}
use Rattle.loosewalks.specs.Held.{NoteKeepsOff}
use Rattle.loosewalks.proofs.cone.notes_keep_off.Given as goal

abbrev pub invariant-loop-place : goal.invariant-loop-place
invariant-loop-place l = (k : ℕ) (d : NoteView) → k < l.place → NoteKeepsOff l.outputs l.cone l.touched (get_or l.notes k d)

-- The changes of the notes that were looked at pass.
use Rattle.std.proofs.Common.{ℕ, ◌<◌, get_or}
use Rattle.certificates.specs.Notes.{NoteView}
use Rattle.heldways.specs.Passing.{AllPass}
use Rattle.passing.specs.Moves.{passes_by}
use Rattle.passing.proofs.sleep.notes_pass.Given as goal

abbrev pub invariant-loop-place : goal.invariant-loop-place
invariant-loop-place l = (k : ℕ) (d : NoteView) → k < l.place → AllPass (passes_by l.moves) (get_or l.notes k d).changes

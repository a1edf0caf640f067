-- Notes on what is left complete those that were found.
use Rattle.std.proofs.Common.{◌++◌, List, map, length}
use Rattle.diagnosis.specs.declared.notes.Note.{Note}
use Rattle.diagnosis.specs.PlainLexemes.{plain_lexeme}
use Rattle.diagnosis.specs.Notes.{AreNotes}
use Rattle.diagnosis.proofs.notes.notes.Given as goal

abbrev pub invariant-loop-left : goal.invariant-loop-left
invariant-loop-left l = (ns : List Note) → AreNotes (map plain_lexeme l.left) ns → AreNotes (map plain_lexeme l.initial.left) (l.found.items ++ ns)

abbrev pub decreases-loop-left : goal.decreases-loop-left
decreases-loop-left l = length l.left

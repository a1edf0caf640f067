-- The notes that were taken so far are listed.
use Rattle.std.proofs.Common.{◌≡◌, map, take}
use Rattle.diagnosis.specs.Kinds.{for_itself}
use Rattle.diagnosis.proofs.kinds.each.Given as goal

abbrev pub invariant-loop-note : goal.invariant-loop-note
invariant-loop-note l = l.listed.items ≡ map for_itself (take l.note-index l.notes)

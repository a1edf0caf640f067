-- The first notes of their kinds, among those that were taken so far, are listed.
use Rattle.std.proofs.Common.{◌≡◌, [], map, take}
use Rattle.diagnosis.specs.Kinds.{firsts_behind, for_kind}
use Rattle.diagnosis.proofs.kinds.kinds.Given as goal

abbrev pub invariant-loop-note : goal.invariant-loop-note
invariant-loop-note l = l.listed.items ≡ map (for_kind l.notes) (firsts_behind [] (take l.note-index l.notes))

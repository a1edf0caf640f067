-- Each so far is apart from all of the others.
use Rattle.std.proofs.Common.{take}
use Rattle.std.specs.List.{All}
use Rattle.certificates.specs.Apart.{SayApart}
use Rattle.looseparts.proofs.found.are_all_apart.Given as goal

abbrev pub invariant-loop-note : goal.invariant-loop-note
invariant-loop-note l = All (λ note. All (SayApart note) l.others) (take l.note-index l.notes)

-- It is apart from each so far.
use Rattle.std.proofs.Common.{take}
use Rattle.std.specs.List.{All}
use Rattle.certificates.specs.Apart.{SayApart}
use Rattle.looseparts.proofs.found.is_apart_from_all.Given as goal

abbrev pub invariant-loop-other : goal.invariant-loop-other
invariant-loop-other l = All (SayApart l.note) (take l.other-index l.others)

-- The characters so far were sent.
use Rattle.std.proofs.Common.{length, take}
use Rattle.std.specs.Str.{chars}
use Rattle.telling.specs.FaultLines.{IsWrittenWhole, shown_by, spelled}
use Rattle.telling.proofs.telling.send_as_shown.Given as goal

abbrev pub invariant-loop-letter : goal.invariant-loop-letter
invariant-loop-letter g l = IsWrittenWhole g.E.Write.contents l.fn.err l.err (spelled (shown_by l.showing) (take (length l.yielded) (chars l.text)))

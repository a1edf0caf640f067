-- The characters so far were sent.
use Rattle.std.proofs.Common.{length, take}
use Rattle.std.specs.Char.{encode_utf8}
use Rattle.std.specs.Char.Escape.{escape_default}
use Rattle.telling.specs.FaultLines.{IsWrittenWhole, spelled}
use Rattle.telling.proofs.telling.send_escape.Given as goal

abbrev pub invariant-loop-part : goal.invariant-loop-part
invariant-loop-part g l = IsWrittenWhole g.E.Write.contents l.fn.err l.err (spelled encode_utf8 (take (length l.yielded) (escape_default l.fn.letter)))

-- What was written so far, and then what is left, are the text.
use Rattle.std.proofs.Common.{◌≡◌, length}
use Rattle.journal.specs.Counted.{held, failed_calls}
use Rattle.journal.specs.Written.{IsWrittenUpTo}
use Rattle.telling.proofs.telling.send.Given as goal

abbrev pub invariant-loop-rest : goal.invariant-loop-rest
invariant-loop-rest g l = record {
  went : IsWrittenUpTo (g.E.Write.contents (held l.fn.err)) (g.E.Write.contents (held l.err)) l.text l.rest;
  failed : failed_calls l.err ≡ failed_calls l.fn.err;
}

abbrev pub decreases-loop-rest : goal.decreases-loop-rest
decreases-loop-rest g l = length l.rest

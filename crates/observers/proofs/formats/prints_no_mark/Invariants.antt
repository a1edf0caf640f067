-- With the processes that are left, all have formats of ASCII.
use Rattle.observers.proofs.AsciiFormats.{AreAsciiProcesses, IsAllWithRest}
use Rattle.observers.proofs.formats.prints_no_mark.Given as goal

abbrev pub invariant-loop-process : goal.invariant-loop-process
invariant-loop-process l = IsAllWithRest AreAsciiProcesses l.process-items l.process-index

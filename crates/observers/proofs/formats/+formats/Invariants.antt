-- With the statements that are left, all have formats of ASCII.
use Rattle.observers.proofs.AsciiFormats.{AreAsciiStatements, IsAllWithRest}
use Rattle.observers.proofs.formats.+formats.Given as goal

abbrev pub invariant-have_ascii_formats-loop-statement : goal.invariant-have_ascii_formats-loop-statement
invariant-have_ascii_formats-loop-statement l = IsAllWithRest AreAsciiStatements l.statements l.statement-index

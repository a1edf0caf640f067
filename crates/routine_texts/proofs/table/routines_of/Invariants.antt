-- What is found so far stands in the text.
use Rattle.std.proofs.Common.{[]}
use Rattle.routine_texts.specs.Routines.{IsWithinText}
use Rattle.routine_texts.specs.Tables.{AddsRoutines}
use Rattle.routine_texts.proofs.table.routines_of.Given as goal

abbrev pub invariant-loop-module : goal.invariant-loop-module
invariant-loop-module l = AddsRoutines [] l.found.items (λ p. IsWithinText l.fn.modules p)

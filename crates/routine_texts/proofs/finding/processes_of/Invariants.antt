-- What is found so far stands in the text.
use Rattle.std.proofs.Common.{[]}
use Rattle.routine_texts.specs.Processes.{StandsInText, AddsOnly}
use Rattle.routine_texts.proofs.finding.processes_of.Given as goal

abbrev pub invariant-loop-source : goal.invariant-loop-source
invariant-loop-source l = AddsOnly [] l.found.items (λ p. StandsInText l.fn.modules p)

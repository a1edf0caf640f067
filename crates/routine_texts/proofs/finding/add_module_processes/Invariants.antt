-- What is found so far stands in the module.
use Rattle.routine_texts.specs.Processes.{StandsInModule, AddsOnly}
use Rattle.routine_texts.proofs.finding.add_module_processes.Given as goal

abbrev pub invariant-loop-item : goal.invariant-loop-item
invariant-loop-item l = AddsOnly l.fn.found.items l.found.items (λ p. StandsInModule p l.fn.source)

-- What is found so far stands in the module.
use Rattle.routine_texts.specs.Routines.{IsWithinModule}
use Rattle.routine_texts.specs.Tables.{AddsRoutines}
use Rattle.routine_texts.proofs.table.add_module_routines.Given as goal

abbrev pub invariant-loop-item : goal.invariant-loop-item
invariant-loop-item l = AddsRoutines l.fn.found.items l.found.items (λ p. IsWithinModule l.fn.module p)

-- What is found so far stands in the item, or in the block.
use Rattle.routine_texts.specs.Routines.{IsWithin, IsWithinBlock}
use Rattle.routine_texts.specs.Tables.{AddsRoutines}
use Rattle.routine_texts.proofs.table.+table.Given as goal

abbrev pub invariant-add_routines-loop-branch : goal.invariant-add_routines-loop-branch
invariant-add_routines-loop-branch l = AddsRoutines l.fn.found.items l.found.items (λ p. IsWithin p l.fn.item)

abbrev pub invariant-add_routines-loop-one : goal.invariant-add_routines-loop-one
invariant-add_routines-loop-one l = AddsRoutines l.fn.found.items l.found.items (λ p. IsWithin p l.fn.item)

abbrev pub invariant-add_block-loop-item : goal.invariant-add_block-loop-item
invariant-add_block-loop-item l = AddsRoutines l.fn.found.items l.found.items (λ p. IsWithinBlock p l.fn.block)

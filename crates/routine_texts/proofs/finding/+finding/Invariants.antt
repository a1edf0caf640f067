-- What is found so far stands in the item, or in the block.
use Rattle.routine_texts.specs.Processes.{StandsIn, StandsInBlock, AddsOnly}
use Rattle.routine_texts.proofs.finding.+finding.Given as goal

abbrev pub invariant-add_processes-loop-branch : goal.invariant-add_processes-loop-branch
invariant-add_processes-loop-branch l = AddsOnly l.fn.found.items l.found.items (λ p. StandsIn p l.fn.item)

abbrev pub invariant-add_processes-loop-one : goal.invariant-add_processes-loop-one
invariant-add_processes-loop-one l = AddsOnly l.fn.found.items l.found.items (λ p. StandsIn p l.fn.item)

abbrev pub invariant-add_block_processes-loop-item : goal.invariant-add_block_processes-loop-item
invariant-add_block_processes-loop-item l = AddsOnly l.fn.found.items l.found.items (λ p. StandsInBlock p l.fn.block)

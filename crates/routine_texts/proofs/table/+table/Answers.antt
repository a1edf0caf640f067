use Rattle.syntax_tree.specs.declared.modules.GenerateBlock.{out-GenerateBlock}
use Rattle.syntax_tree.specs.declared.modules.GenerateLoop.{out-GenerateLoop}
use Rattle.syntax_tree.specs.declared.modules.GenerateIf.{out-GenerateIf}
use Rattle.syntax_tree.specs.declared.modules.GenerateBranch.{out-GenerateBranch}
use Rattle.syntax_tree.specs.declared.modules.GenerateCase.{out-GenerateCase}
use Rattle.syntax_tree.specs.declared.modules.GenerateCaseItem.{out-GenerateCaseItem}
use Rattle.routine_texts.specs.Routines.{IsWithin, itself, within_loop, within_branch, within_last, within_case, within_block, IsWithinBlock, within_items}
use Rattle.routine_texts.specs.Tables.{of_function, of_task}
use Rattle.routine_texts.proofs.Processes.{element_of}
use Rattle.routine_texts.proofs.Tables.{routines_none, routines_one, routines_both, routines_ok}
use Rattle.routine_texts.proofs.table.+table.Goals as goal

pub add_routines-returns-in_ok-push-in-Function : goal.add_routines-returns-in_ok-push-in-Function
add_routines-returns-in_ok-push-in-Function t c =
    let i = c.args.item.now in
    routines_one c.args.found.now.items c.push.new.self.items _ (λ p. IsWithin p i) c.in_ok-push-in-Function.ensures.items
    (of_function c.in-Function.source (itself i c.in-Function.is) c.in_ok-made-in-Function.ensures.token c.in_ok-made-in-Function.ensures.made)

pub add_routines-returns-in_ok-push-in-Task : goal.add_routines-returns-in_ok-push-in-Task
add_routines-returns-in_ok-push-in-Task t c =
    let i = c.args.item.now in
    routines_one c.args.found.now.items c.push-in-Task.new.self.items _ (λ p. IsWithin p i) c.in_ok-push-in-Task.ensures.items
    (of_task c.in-Task.source (itself i c.in-Task.is) c.in_ok-made-in-Task.ensures.token c.in_ok-made-in-Task.ensures.made)

pub add_routines-returns-in-GenerateLoop : goal.add_routines-returns-in-GenerateLoop
add_routines-returns-in-GenerateLoop t c =
    let i = c.args.item.now in
    let old = c.args.found.now.items in
    let inner = c.in-GenerateLoop.inner in
    routines_ok c.add_block.result old old c.add_block.new.found.items (λ p. IsWithin p i) (λ p. IsWithinBlock p (out-GenerateLoop inner).body) (λ p h. within_loop i inner c.in-GenerateLoop.is h) (routines_none old (λ p. IsWithin p i))
    c.add_block.ensures

pub add_routines-returns-in-GenerateBlock : goal.add_routines-returns-in-GenerateBlock
add_routines-returns-in-GenerateBlock t c =
    let i = c.args.item.now in
    let old = c.args.found.now.items in
    let block = c.in-GenerateBlock.block in
    routines_ok c.add_block-in-GenerateBlock.result old old c.add_block-in-GenerateBlock.new.found.items (λ p. IsWithin p i) (λ p. IsWithinBlock p block) (λ p h. within_block i block c.in-GenerateBlock.is h)
    (routines_none old (λ p. IsWithin p i)) c.add_block-in-GenerateBlock.ensures

pub add_routines-returns-in_default : goal.add_routines-returns-in_default
add_routines-returns-in_default t c = routines_none c.args.found.now.items (λ p. IsWithin p c.args.item.now)

pub add_block-loop-item-init : goal.add_block-loop-item-init
add_block-loop-item-init t c = routines_none c.args.found.now.items (λ p. IsWithinBlock p c.args.block.now)

pub add_block-loop-item-preserved : goal.add_block-loop-item-preserved
add_block-loop-item-preserved t c =
    let block = c.args.block.now in
    let i = c.item-item.result in
    routines_both c.args.found.now.items c.loop-item.found.items c.add_routines.new.found.items (λ p. IsWithinBlock p block) (λ p. IsWithin p i)
    (λ p h. within_items block i (element_of c.deref-item-items.result.now (out-GenerateBlock block).items.items c.loop-item.item-index i c.deref-item-items.ensures.value c.loop-item-test.true c.item-item.is) h) c.loop-item.invariant c.in_ok-add_routines.ensures

-- ---- the branches of an if, and its last else

pub add_routines-loop-branch-init : goal.add_routines-loop-branch-init
add_routines-loop-branch-init t c = routines_none c.args.found.now.items (λ p. IsWithin p c.args.item.now)

pub add_routines-loop-branch-preserved : goal.add_routines-loop-branch-preserved
add_routines-loop-branch-preserved t c =
    let i = c.args.item.now in
    let inner = c.in-GenerateIf.inner in
    let b = c.branch-item.result in
    routines_both c.args.found.now.items c.loop-branch.found.items c.add_block-in-loop-branch.new.found.items (λ p. IsWithin p i) (λ p. IsWithinBlock p (out-GenerateBranch b).body)
    (λ p h. within_branch i inner b c.in-GenerateIf.is (element_of c.deref-branch-items.result.now (out-GenerateIf inner).branches.items c.loop-branch.branch-index b c.deref-branch-items.ensures.value c.loop-branch-test.true c.branch-item.is) h) c.loop-branch.invariant
    c.in_ok-add_block-in-GenerateIf.ensures

pub add_routines-returns-in-Some : goal.add_routines-returns-in-Some
add_routines-returns-in-Some t c =
    let i = c.args.item.now in
    let inner = c.in-GenerateIf.inner in
    let block = c.in-Some.block in
    routines_ok c.add_block-in-Some.result c.args.found.now.items c.loop-branch.found.items c.add_block-in-Some.new.found.items (λ p. IsWithin p i) (λ p. IsWithinBlock p block)
    (λ p h. within_last i inner block c.in-GenerateIf.is c.in-Some.is h) c.loop-branch.invariant c.add_block-in-Some.ensures

-- ---- the items of a case

pub add_routines-loop-one-init : goal.add_routines-loop-one-init
add_routines-loop-one-init t c = routines_none c.args.found.now.items (λ p. IsWithin p c.args.item.now)

pub add_routines-loop-one-preserved : goal.add_routines-loop-one-preserved
add_routines-loop-one-preserved t c =
    let i = c.args.item.now in
    let inner = c.in-GenerateCase.inner in
    let one = c.one-item.result in
    routines_both c.args.found.now.items c.loop-one.found.items c.add_block-in-loop-one.new.found.items (λ p. IsWithin p i) (λ p. IsWithinBlock p (out-GenerateCaseItem one).body)
    (λ p h. within_case i inner one c.in-GenerateCase.is (element_of c.deref-one-items.result.now (out-GenerateCase inner).items.items c.loop-one.one-index one c.deref-one-items.ensures.value c.loop-one-test.true c.one-item.is) h) c.loop-one.invariant
    c.in_ok-add_block-in-GenerateCase.ensures

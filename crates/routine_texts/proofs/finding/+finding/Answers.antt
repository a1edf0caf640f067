use Rattle.syntax_tree.specs.declared.modules.GenerateBlock.{out-GenerateBlock}
use Rattle.syntax_tree.specs.declared.modules.GenerateLoop.{out-GenerateLoop}
use Rattle.syntax_tree.specs.declared.modules.GenerateIf.{out-GenerateIf}
use Rattle.syntax_tree.specs.declared.modules.GenerateBranch.{out-GenerateBranch}
use Rattle.syntax_tree.specs.declared.modules.GenerateCase.{out-GenerateCase}
use Rattle.syntax_tree.specs.declared.modules.GenerateCaseItem.{out-GenerateCaseItem}
use Rattle.routine_texts.specs.Processes.{StandsIn, as_item, in_loop, in_branch, in_else, in_case, in_block, StandsInBlock, among_items}
use Rattle.routine_texts.proofs.Processes.{element_of, adds_none, adds_one, adds_both, adds_ok}
use Rattle.routine_texts.proofs.finding.+finding.Goals as goal

pub add_processes-returns-in_ok-push-in-Process : goal.add_processes-returns-in_ok-push-in-Process
add_processes-returns-in_ok-push-in-Process t c =
    let i = c.args.item.now in
    adds_one c.args.found.now.items c.push.new.self.items _ (λ p. StandsIn p i) c.in_ok-push-in-Process.ensures.items (as_item i c.in-Process.is)

pub add_processes-returns-in-GenerateLoop : goal.add_processes-returns-in-GenerateLoop
add_processes-returns-in-GenerateLoop t c =
    let i = c.args.item.now in
    let old = c.args.found.now.items in
    let inner = c.in-GenerateLoop.inner in
    adds_ok c.add_block_processes.result old old c.add_block_processes.new.found.items (λ p. StandsIn p i) (λ p. StandsInBlock p (out-GenerateLoop inner).body) (λ p h. in_loop i inner c.in-GenerateLoop.is h) (adds_none old (λ p. StandsIn p i))
    c.add_block_processes.ensures

pub add_processes-returns-in-GenerateBlock : goal.add_processes-returns-in-GenerateBlock
add_processes-returns-in-GenerateBlock t c =
    let i = c.args.item.now in
    let old = c.args.found.now.items in
    let block = c.in-GenerateBlock.block in
    adds_ok c.add_block_processes-in-GenerateBlock.result old old c.add_block_processes-in-GenerateBlock.new.found.items (λ p. StandsIn p i) (λ p. StandsInBlock p block) (λ p h. in_block i block c.in-GenerateBlock.is h)
    (adds_none old (λ p. StandsIn p i)) c.add_block_processes-in-GenerateBlock.ensures

pub add_processes-returns-in_default : goal.add_processes-returns-in_default
add_processes-returns-in_default t c = adds_none c.args.found.now.items (λ p. StandsIn p c.args.item.now)

pub add_block_processes-loop-item-init : goal.add_block_processes-loop-item-init
add_block_processes-loop-item-init t c = adds_none c.args.found.now.items (λ p. StandsInBlock p c.args.block.now)

pub add_block_processes-loop-item-preserved : goal.add_block_processes-loop-item-preserved
add_block_processes-loop-item-preserved t c =
    let block = c.args.block.now in
    let i = c.item-item.result in
    adds_both c.args.found.now.items c.loop-item.found.items c.add_processes.new.found.items (λ p. StandsInBlock p block) (λ p. StandsIn p i)
    (λ p h. among_items block i (element_of c.deref-item-items.result.now (out-GenerateBlock block).items.items c.loop-item.item-index i c.deref-item-items.ensures.value c.loop-item-test.true c.item-item.is) h) c.loop-item.invariant c.in_ok-add_processes.ensures

-- ---- the branches of an if, and its last else

pub add_processes-loop-branch-init : goal.add_processes-loop-branch-init
add_processes-loop-branch-init t c = adds_none c.args.found.now.items (λ p. StandsIn p c.args.item.now)

pub add_processes-loop-branch-preserved : goal.add_processes-loop-branch-preserved
add_processes-loop-branch-preserved t c =
    let i = c.args.item.now in
    let inner = c.in-GenerateIf.inner in
    let b = c.branch-item.result in
    adds_both c.args.found.now.items c.loop-branch.found.items c.add_block_processes-in-loop-branch.new.found.items (λ p. StandsIn p i) (λ p. StandsInBlock p (out-GenerateBranch b).body)
    (λ p h. in_branch i inner b c.in-GenerateIf.is (element_of c.deref-branch-items.result.now (out-GenerateIf inner).branches.items c.loop-branch.branch-index b c.deref-branch-items.ensures.value c.loop-branch-test.true c.branch-item.is) h) c.loop-branch.invariant
    c.in_ok-add_block_processes-in-GenerateIf.ensures

pub add_processes-returns-in-Some : goal.add_processes-returns-in-Some
add_processes-returns-in-Some t c =
    let i = c.args.item.now in
    let inner = c.in-GenerateIf.inner in
    let block = c.in-Some.block in
    adds_ok c.add_block_processes-in-Some.result c.args.found.now.items c.loop-branch.found.items c.add_block_processes-in-Some.new.found.items (λ p. StandsIn p i) (λ p. StandsInBlock p block)
    (λ p h. in_else i inner block c.in-GenerateIf.is c.in-Some.is h) c.loop-branch.invariant c.add_block_processes-in-Some.ensures

-- ---- the items of a case

pub add_processes-loop-one-init : goal.add_processes-loop-one-init
add_processes-loop-one-init t c = adds_none c.args.found.now.items (λ p. StandsIn p c.args.item.now)

pub add_processes-loop-one-preserved : goal.add_processes-loop-one-preserved
add_processes-loop-one-preserved t c =
    let i = c.args.item.now in
    let inner = c.in-GenerateCase.inner in
    let one = c.one-item.result in
    adds_both c.args.found.now.items c.loop-one.found.items c.add_block_processes-in-loop-one.new.found.items (λ p. StandsIn p i) (λ p. StandsInBlock p (out-GenerateCaseItem one).body)
    (λ p h. in_case i inner one c.in-GenerateCase.is (element_of c.deref-one-items.result.now (out-GenerateCase inner).items.items c.loop-one.one-index one c.deref-one-items.ensures.value c.loop-one-test.true c.one-item.is) h) c.loop-one.invariant
    c.in_ok-add_block_processes-in-GenerateCase.ensures

use Rattle.routine_texts.specs.Processes.{StandsIn, StandsInModule}
use Rattle.routine_texts.proofs.Processes.{element_of, adds_none, adds_both}
use Rattle.routine_texts.proofs.finding.add_module_processes.Goals as goal

pub loop-item-init : goal.loop-item-init
loop-item-init c = adds_none c.args.found.now.items (λ p. StandsInModule p c.args.source.now)

pub loop-item-preserved : goal.loop-item-preserved
loop-item-preserved c =
    let m = c.args.source.now in
    let i = c.item-item.result in
    adds_both c.args.found.now.items c.loop-item.found.items c.add_processes.new.found.items (λ p. StandsInModule p m) (λ p. StandsIn p i)
    (λ p h. (i, element_of c.deref-item-items.result.now m.items.items c.loop-item.item-index i c.deref-item-items.ensures.value c.loop-item-test.true c.item-item.is, h)) c.loop-item.invariant c.in_ok-add_processes.ensures

use Rattle.routine_texts.specs.Routines.{IsWithin, IsWithinModule}
use Rattle.routine_texts.proofs.Processes.{element_of}
use Rattle.routine_texts.proofs.Tables.{routines_none, routines_both}
use Rattle.routine_texts.proofs.table.add_module_routines.Goals as goal

pub loop-item-init : goal.loop-item-init
loop-item-init c = routines_none c.args.found.now.items (λ p. IsWithinModule c.args.module.now p)

pub loop-item-preserved : goal.loop-item-preserved
loop-item-preserved c =
    let m = c.args.module.now in
    let i = c.item-item.result in
    routines_both c.args.found.now.items c.loop-item.found.items c.add_routines.new.found.items (λ p. IsWithinModule m p) (λ p. IsWithin p i)
    (λ p h. (i, element_of c.deref-item-items.result.now m.items.items c.loop-item.item-index i c.deref-item-items.ensures.value c.loop-item-test.true c.item-item.is, h)) c.loop-item.invariant c.in_ok-add_routines.ensures

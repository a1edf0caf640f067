use Rattle.std.proofs.Common.{[], List, sym, subst}
use Rattle.routine_texts.specs.declared.table.Routine.{Routine}
use Rattle.routine_texts.specs.Routines.{IsWithinModule, IsWithinText}
use Rattle.routine_texts.specs.Tables.{AddsRoutines}
use Rattle.routine_texts.proofs.Processes.{element_at}
use Rattle.routine_texts.proofs.Tables.{routines_none, routines_both}
use Rattle.routine_texts.proofs.table.routines_of.Goals as goal

pub loop-module-init : goal.loop-module-init
loop-module-init c =
    let modules = c.args.modules.now in
    subst (λ (xs : List Routine). AddsRoutines [] xs (λ p. IsWithinText modules p)) (sym c.new-found.ensures.items) (routines_none [] (λ p. IsWithinText modules p))

pub loop-module-preserved : goal.loop-module-preserved
loop-module-preserved c =
    let modules = c.args.modules.now in
    let m = c.module-item.result in
    routines_both [] c.loop-module.found.items c.add_module_routines.new.found.items (λ p. IsWithinText modules p) (λ p. IsWithinModule m p)
    (λ p h. (m, element_at modules c.loop-module.module-index m c.loop-module-test.true c.module-item.is, h)) c.loop-module.invariant c.in_ok-add_module_routines.ensures

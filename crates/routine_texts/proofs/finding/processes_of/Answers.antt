use Rattle.std.proofs.Common.{[], List, Bor, sym, subst}
use Rattle.syntax_tree.specs.declared.modules.ProcessConstruct.{ProcessConstruct}
use Rattle.routine_texts.specs.Processes.{StandsInModule, StandsInText, AddsOnly}
use Rattle.routine_texts.proofs.Processes.{element_at, adds_none, adds_both}
use Rattle.routine_texts.proofs.finding.processes_of.Goals as goal

pub loop-source-init : goal.loop-source-init
loop-source-init c =
    let modules = c.args.modules.now in
    subst (λ (xs : List (Bor ProcessConstruct)). AddsOnly [] xs (λ p. StandsInText modules p)) (sym c.new-found.ensures.items) (adds_none [] (λ p. StandsInText modules p))

pub loop-source-preserved : goal.loop-source-preserved
loop-source-preserved c =
    let modules = c.args.modules.now in
    let m = c.source-item.result in
    adds_both [] c.loop-source.found.items c.add_module_processes.new.found.items (λ p. StandsInText modules p) (λ p. StandsInModule p m)
    (λ p h. (m, element_at modules c.loop-source.source-index m c.loop-source-test.true c.source-item.is, h)) c.loop-source.invariant c.in_ok-add_module_processes.ensures

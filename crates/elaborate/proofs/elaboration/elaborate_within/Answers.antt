-- What is made of the processes is the design of the module.
use Rattle.std.proofs.Common.{◌≡◌, map, sym, ap, subst, ◌∙◌}
use Rattle.model.specs.Elaboration.{elaborated_process}
use Rattle.model.specs.SourceTrees as trees
use Rattle.model.specs.SourceTrees.{module_of}
use Rattle.design.specs.Sound.{IsSound}
use Rattle.design.specs.DesignTrees as tree
use Rattle.elaborate.specs.Small.{AreSmallProcesses}
use Rattle.elaborate.proofs.Whole.{same_design}
use Rattle.elaborate.proofs.elaboration.elaborate_within.Goals as goal

pub processes-requires : goal.processes-requires
processes-requires c = subst (λ ps. AreSmallProcesses (map trees.source_process_of ps)) (sym c.as_slice.ensures.value) c.in_ok-names.ensures.small

pub design-requires : goal.design-requires
design-requires c =
    let m = module_of c.args.source.now in
    let made : map tree.process_of c.in_ok-processes.processes.items ≡ map (elaborated_process c.in_ok-names.names) m.processes = c.in_ok-processes.ensures ∙ ap (λ ps. map (elaborated_process c.in_ok-names.names) (map trees.source_process_of ps)) c.as_slice.ensures.value in
    subst IsSound (sym (same_design c.args.limits m c.in_ok-names.names c.in_ok-names.ensures.names (map tree.process_of c.in_ok-processes.processes.items) made)) c.in_ok-names.ensures.sound

pub returns-clause-design : goal.returns-clause-design
returns-clause-design c =
    let m = module_of c.args.source.now in
    let made : map tree.process_of c.in_ok-processes.processes.items ≡ map (elaborated_process c.in_ok-names.names) m.processes = c.in_ok-processes.ensures ∙ ap (λ ps. map (elaborated_process c.in_ok-names.names) (map trees.source_process_of ps)) c.as_slice.ensures.value in
    c.in_ok-design.ensures.design ∙ same_design c.args.limits m c.in_ok-names.names c.in_ok-names.ensures.names (map tree.process_of c.in_ok-processes.processes.items) made

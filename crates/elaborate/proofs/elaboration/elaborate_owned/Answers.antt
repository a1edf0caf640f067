-- What is made of the processes is the design of the module.
use Rattle.std.proofs.Common.{◌≡◌, map, sym, subst, ◌∙◌}
use Rattle.model.specs.Elaboration.{elaborated_process}
use Rattle.model.specs.SourceTrees.{module_of}
use Rattle.design.specs.Sound.{IsSound}
use Rattle.design.specs.DesignTrees as tree
use Rattle.elaborate.proofs.Whole.{same_design}
use Rattle.elaborate.proofs.elaboration.elaborate_owned.Goals as goal

pub design-requires : goal.design-requires
design-requires c =
    let m = module_of c.args.source in
    let made : map tree.process_of c.in_ok-processes.processes.items ≡ map (elaborated_process c.in_ok-names.names) m.processes = c.in_ok-processes.ensures in
    subst IsSound (sym (same_design c.args.limits m c.in_ok-names.names c.in_ok-names.ensures.names (map tree.process_of c.in_ok-processes.processes.items) made)) c.in_ok-names.ensures.sound

pub returns-clause-design : goal.returns-clause-design
returns-clause-design c =
    let m = module_of c.args.source in
    let made : map tree.process_of c.in_ok-processes.processes.items ≡ map (elaborated_process c.in_ok-names.names) m.processes = c.in_ok-processes.ensures in
    c.in_ok-design.ensures.design ∙ same_design c.args.limits m c.in_ok-names.names c.in_ok-names.ensures.names (map tree.process_of c.in_ok-processes.processes.items) made

-- There is a place for each process of the flat module, which the module tells of.
use Rattle.std.proofs.Common.{ap, sym, subst, List, length, map, ◌∙◌}
use Rattle.model.specs.declared.tree.SourceProcess.{SourceProcess}
use Rattle.model.specs.SourceTrees.{module_of}
use Rattle.statement_parts.specs.declared.plain.PlainProcess.{PlainProcess}
use Rattle.lowering.specs.Flat.{IsFlatModule}
use Rattle.whole_designs.proofs.Made.{as_many, whole_made}
use Rattle.whole_designs.proofs.whole.whole_of.Goals as goal

pub told_of-requires : goal.told_of-requires
told_of-requires c =
    let plain = c.args.plain.now in
    let m = c.in_ok-module.module in
    let flat = subst (λ (sources : List PlainProcess). IsFlatModule sources plain.design (module_of m).name (module_of m)) c.as_slice-sources.ensures.value c.in_ok-module.ensures.flat in
    as_many plain (module_of m).name m c.requires.expanded flat ∙ ap (λ (ps : List SourceProcess). length ps) (sym c.as_slice-processes.ensures.value)

pub returns-in-Ok-clause-made : goal.returns-in-Ok-clause-made
returns-in-Ok-clause-made c =
    let plain = c.args.plain.now in
    let m = c.in_ok-module.module in
    let flat = subst (λ (sources : List PlainProcess). IsFlatModule sources plain.design (module_of m).name (module_of m)) c.as_slice-sources.ensures.value c.in_ok-module.ensures.flat in
    whole_made plain _ c.requires.expanded flat (c.in-Ok.ensures ∙ ap (λ (ps : List SourceProcess). map (λ (p : SourceProcess). p.repeats) ps) c.as_slice-processes.ensures.value)

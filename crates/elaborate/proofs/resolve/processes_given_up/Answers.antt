use Rattle.std.proofs.Common.{map, ap, subst, ◌∙◌}
use Rattle.std.specs.Vec.Iter.{into_iter_items}
use Rattle.design.specs.DesignTrees as tree
use Rattle.model.specs.Elaboration as model
use Rattle.model.specs.SourceTrees.{source_process_of}
use Rattle.elaborate.specs.Small.{AreSmallProcesses}
use Rattle.elaborate.proofs.Turns.{one_made, pushed}
use Rattle.elaborate.proofs.resolve.processes_given_up.Goals as goal

pub loop-process-preserved : goal.loop-process-preserved
loop-process-preserved c = record {
  made = one_made (model.elaborated_process c.args.names.now) (map tree.process_of c.loop-process.made.items) _ (source_process_of c.in-Some.process) (map source_process_of (into_iter_items c.loop-process.process-iterator)) (map source_process_of (into_iter_items c.next.new.self)) (ap (map source_process_of) c.in-Some.ensures.steps.0) (pushed tree.process_of c.loop-process.made.items _ c.in_ok-process_given_up.field-0 _ c.in_ok-push.ensures.items c.in_ok-process_given_up.ensures) ∙ c.loop-process.invariant.made;
  small = (subst (λ xs. AreSmallProcesses (map source_process_of xs)) c.in-Some.ensures.steps.0 c.loop-process.invariant.small).1;
}

use Rattle.std.proofs.Common.{◌∙◌, ap, map, refl, subst, arith}
use Rattle.model.specs.SourceTrees.{source_process_of}
use Rattle.statement_parts.specs.Places.{surroundings}
use Rattle.statement_parts.specs.declared.plain.PlainProcess.{PlainProcess}
use Rattle.lowering.specs.Hidden.{Makes, hidden_in}
use Rattle.lowering.specs.Flat.{IsFlatProcess, flat_declared}
use Rattle.lowering.proofs.Modules.{processes_start, processes_more, processes_end}
use Rattle.lowering.proofs.flat.flat_module.Goals as goal

pub loop-process-init : goal.loop-process-init
loop-process-init c = processes_start (surroundings c.args.design.now) (hidden_in c.new-hidden.result) c.new-procs.result.items c.new-hidden.ensures c.new-procs.ensures.items

pub loop-process-preserved : goal.loop-process-preserved
loop-process-preserved c =
    let d = surroundings c.args.design.now in
    let old = hidden_in c.loop-process.hidden in
    let new = hidden_in c.flat_process.new.hidden in
    processes_more d old new c.args.processes.now c.args.processes.now c.loop-process.process-index c.process-item.result c.loop-process.procs.items c.push.new.self.items c.in_ok-made.made refl c.loop-process-test.true c.loop-process.invariant
    (subst (λ (p : PlainProcess). Makes old new (IsFlatProcess d p (source_process_of c.in_ok-made.made))) c.process-item.is c.in_ok-made.ensures)
    c.in_ok-push.ensures.items

pub returns : goal.returns
returns c =
    let hidden = c.loop-process.hidden.variables.items in
    record {
      hidden = hidden;
      named = c.in_ok-name.ensures.ok;
      declares = c.in_ok-regs.ensures ∙ ap (flat_declared c.args.design.now.objects.items) c.as_slice.ensures.value;
      processes_made = processes_end (surroundings c.args.design.now) (hidden_in c.loop-process.hidden) c.args.processes.now c.loop-process.process-index (map source_process_of c.loop-process.procs.items) (omega arith) c.loop-process.invariant;
    }

use Rattle.std.proofs.Common.{◌++◌, map, refl}
use Rattle.model.specs.SourceTrees.{source_process_of}
use Rattle.flattext.specs.Modules.{source_process_text, processes_text}
use Rattle.flattext.proofs.Each.{each_more, each_put}
use Rattle.flattext.proofs.module.push_processes.Goals as goal

pub loop-process-preserved : goal.loop-process-preserved
loop-process-preserved c =
    let all = c.args.processes.now in
    each_more (λ rest. processes_text (map source_process_of rest)) (source_process_text (source_process_of c.process-item.result)) c.push_process.new.text.items c.loop-process.text.items (c.args.text.now.items ++ processes_text (map source_process_of all)) all
    c.loop-process.process-index c.process-item.result c.loop-process-test.true c.process-item.is refl c.loop-process.invariant c.in_ok-push_process.ensures

pub returns : goal.returns
returns c =
    let all = c.args.processes.now in
    each_put (λ rest. processes_text (map source_process_of rest)) c.loop-process.text.items (c.args.text.now.items ++ processes_text (map source_process_of all)) all c.loop-process.process-index c.loop-process-test.false refl c.loop-process.invariant

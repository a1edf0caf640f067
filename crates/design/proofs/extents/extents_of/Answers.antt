use Rattle.std.proofs.Common.{◌+◌, ◌++◌, length, drop, map, sym, ◌∙◌, ap}
use Rattle.design.specs.DesignTrees.{process_of, statements_of}
use Rattle.design.specs.Extents.{extents, all_extents}
use Rattle.design.proofs.Places.{left_more}
use Rattle.design.proofs.Measured.{measured_process}
use Rattle.design.proofs.extents.extents_of.Goals as goal

pub loop-process-preserved : goal.loop-process-preserved
loop-process-preserved c =
    let ps = c.args.processes.now in
    let i = c.loop-process.process-index in
    let p = c.process-item.result in
    let table = c.loop-process.table.items in
    measured_process table c.measure_all.new.table.items _ (process_of p) (map process_of (drop (i + 1) ps)) (c.in_ok-measure_all.ensures ∙ ap (λ b. table ++ extents (length table) (statements_of b)) c.deref.ensures.value)
    (sym (left_more (λ l. table ++ all_extents (length table) (map process_of l)) ps i p c.loop-process-test.true c.process-item.is) ∙ c.loop-process.invariant)

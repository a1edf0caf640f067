-- One process more, and all.
use Rattle.std.proofs.Common.{◌+◌, drop, arith}
use Rattle.design.specs.Compiled.{design_of}
use Rattle.observers.proofs.AsciiFormats.{AreAsciiProcesses, more_with_rest, one_process, printing}
use Rattle.observers.proofs.OneWave.{one_text_tells_registers}
use Rattle.observers.proofs.formats.prints_no_mark.Goals as goal

pub loop-process-preserved : goal.loop-process-preserved
loop-process-preserved c =
    let processes = c.trees-process-items.result.now in
    let i = c.loop-process.process-index in
    more_with_rest AreAsciiProcesses processes i c.process-item.result (omega arith) c.process-item.is
    (λ rest. one_process c.process-item.result (drop (i + 1) processes) c.deref.result.now c.deref.ensures.value c.have_ascii_formats.ensures rest) c.loop-process.invariant

pub returns-clause-mark : goal.returns-clause-mark
returns-clause-mark c =
    printing c.args.design.now.widths c.trees-process-items.result.now c.args.design.now.processes c.loop-process.process-index (omega arith) c.loop-process.invariant
    c.trees-process-items.ensures

pub returns-clause-wave : goal.returns-clause-wave
returns-clause-wave c =
    one_text_tells_registers (design_of c.args.design.now)
    (printing c.args.design.now.widths c.trees-process-items.result.now c.args.design.now.processes c.loop-process.process-index (omega arith) c.loop-process.invariant
    c.trees-process-items.ensures)

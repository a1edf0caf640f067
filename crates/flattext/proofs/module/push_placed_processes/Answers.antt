use Rattle.std.proofs.Common.{◌<◌, ◌++◌, Bor, map, drop, length, arith}
use Rattle.model.specs.Syntax.{Text}
use Rattle.model.specs.SourceTrees.{source_process_of}
use Rattle.flattext.specs.Modules.{placed_processes_text}
use Rattle.flattext.proofs.Placed.{placed_more, placed_all}
use Rattle.flattext.proofs.module.push_placed_processes.Goals as goal

pub loop-number-preserved : goal.loop-number-preserved
loop-number-preserved c =
    let places = map (λ (words : Bor Text). words.now) c.args.places.now in
    let processes = c.args.processes.now in
    let within : c.loop-number.number < length processes = omega arith in
    placed_more c.push_process.new.text.items c.push_place_at.new.text.items c.loop-number.text.items (c.args.text.now.items ++ placed_processes_text places (map source_process_of processes)) places processes c.loop-number.number
    c.index-processes-number.result within c.index-processes-number.is c.loop-number.invariant c.in_ok-push_place_at.ensures c.in_ok-push_process.ensures

pub returns : goal.returns
returns c =
    let places = map (λ (words : Bor Text). words.now) c.args.places.now in
    let processes = c.args.processes.now in
    placed_all c.loop-number.text.items (c.args.text.now.items ++ placed_processes_text places (map source_process_of processes)) (drop c.loop-number.number places) processes c.loop-number.number c.loop-number-test.false
    c.loop-number.invariant

-- A design has few processes.
use Rattle.std.proofs.Common.{◌≡◌, ◌<◌, length, ◌∙◌, ap, arith}
use Rattle.design.specs.Compiled.{Compiled, design_of}
use Rattle.noted.proofs.Woken.{place_within}
use Rattle.noted.proofs.waking.number_at.Goals as goal

pub overflow_cast-result : goal.overflow_cast-result
overflow_cast-result c =
    let m = c.args.machine.now in
    let within : c.args.place < length (design_of m.code).processes = place_within m.code m.core c.args.place c.stands.ensures.states c.requires in
    let count : c.processes-few.result ≡ length (design_of m.code).processes = c.processes-few.ensures.value ∙ ap (λ (k : Compiled). length (design_of k).processes) c.design.ensures in
    omega (arith, within, count, c.processes-few.ensures.few)

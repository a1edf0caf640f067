-- None of the evaluations is of the process.
use Rattle.std.proofs.Common.{sym, ◌∙◌}
use Rattle.std.proofs.lemmas.Bool.{eqb-true}
use Rattle.settling.proofs.Tested.{inside_told}
use Rattle.settling.proofs.member.is_idle.Goals as goal

pub returns : goal.returns
returns c = λ on.
    let m = c.args.machine.now in
    let p = c.args.process in
    sym (inside_told m.core c.state.result.now c.active.result.0.now.items c.active.result.1.now.items p c.active.ensures c.state.ensures) ∙ sym c.times.ensures ∙ eqb-true c.times.result 0 on

-- As often as the process is evaluated, and where it waits.
use Rattle.std.proofs.Common.{◌≡◌, ℕ, Option, sym, subst, ◌∙◌, arith}
use Rattle.std.proofs.lemmas.Bool.{eqb-true}
use Rattle.model.specs.Laws.{evaluations_in}
use Rattle.regions.specs.Machine.{state_at}
use Rattle.settling.specs.LogicStanding.{StandsAs}
use Rattle.settling.proofs.Tested.{inside_told}
use Rattle.settling.proofs.member.stands_as.Goals as goal

pub returns-in-None : goal.returns-in-None
returns-in-None c = λ on.
    let m = c.args.machine.now in
    let p = c.args.process in
    subst (λ (o : Option ℕ). StandsAs (state_at m) p c.args.logic.now.control o) (sym c.in-None.is)
    (sym (inside_told m.core c.state.result.now c.active.result.0.now.items c.active.result.1.now.items p c.active.ensures c.state.ensures) ∙ sym c.times-times.ensures ∙ eqb-true c.times-times.result 1 on)

pub returns-else-control-logic : goal.returns-else-control-logic
returns-else-control-logic c = λ on.
    let m = c.args.machine.now in
    let p = c.args.process in
    let control = c.args.logic.now.control in
    let same : c.in-Some.control ≡ control = omega (arith, c.if-control-logic.false) in
    let none : evaluations_in p m.core.active ≡ 0 =
    sym (inside_told m.core c.state.result.now c.active.result.0.now.items c.active.result.1.now.items p c.active.ensures c.state.ensures) ∙ sym c.times-times.ensures ∙ eqb-true c.times-times.result 0 on in
    subst (λ (o : Option ℕ). StandsAs (state_at m) p control o) (sym c.in-Some.is) (same, none)

-- The time is that of the start.
use Rattle.std.proofs.Common.{◌≡◌, ℕ, ◌∙◌, List, ap, length, subst, sym, arith}
use Rattle.model.specs.Expressions.{Store}
use Rattle.regions.specs.Machine.{state_at}
use Rattle.settling.specs.declared.sleepers.Sleeper.{Sleeper}
use Rattle.passing.specs.SleepThroughNotes.{SleepThroughNotes}
use Rattle.loosewalks.proofs.GoingOn.{all_ok}
use Rattle.loosewalks.proofs.held.sleep_on.Goals as goal

pub sleep_through-requires : goal.sleep_through-requires
sleep_through-requires c = ap length c.values.ensures ∙ c.requires

pub returns : goal.returns
returns c =
    let m = c.args.machine.now in
    let network = c.args.holding.scope.network.now in
    let held = c.args.holding.held.now in
    let start = c.args.start.now in
    let cone = c.args.cone.now.registers.items in
    let notes = c.args.notes.now in
    let sleepers = start.sleepers.items in
    let now : c.time.result ≡ start.time = omega (arith, c.time.ensures, c.if-time-start.false) in
    let same : (state_at m).time ≡ start.time = sym c.time.ensures ∙ now in
    all_ok c.sleep_through.result _ _
    (λ sleep.
    subst (λ (n : ℕ). SleepThroughNotes m.code network held cone start.begin.values n notes sleepers) same
    (subst (λ (a : Store). SleepThroughNotes m.code network held cone a (state_at m).time notes sleepers) c.values.ensures
    (subst (λ (l : List ℕ). SleepThroughNotes m.code network held l c.values.result.now (state_at m).time notes sleepers) c.deref.ensures.value
    (subst (λ (xs : List Sleeper). SleepThroughNotes m.code network held c.deref.result.now c.values.result.now (state_at m).time notes xs) c.deref-2.ensures.value sleep))))
    c.sleep_through.ensures

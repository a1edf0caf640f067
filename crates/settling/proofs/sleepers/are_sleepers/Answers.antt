-- Each is one.
use Rattle.std.proofs.Common.{◌≡◌, ◌<◌, ℕ, false, length, subst, arith}
use Rattle.std.proofs.lemmas.List.{get_or_default}
use Rattle.model.specs.Turns.{contains}
use Rattle.model.specs.Laws.{evaluations_in}
use Rattle.regions.specs.Machine.{state_at}
use Rattle.settling.specs.declared.sleepers.Sleeper.{Sleeper}
use Rattle.settling.proofs.Listed.{upto_more}
use Rattle.settling.proofs.Sleeping.{IsSleeper, of_sleeping}
use Rattle.settling.proofs.sleepers.are_sleepers.Goals as goal

pub loop-place-preserved : goal.loop-place-preserved
loop-place-preserved c =
    let m = c.args.machine.now in
    let sleepers = c.args.sleepers.now in
    let i = c.loop-place.place in
    let within : i < length sleepers = omega arith in
    let Is = IsSleeper m.code (state_at m) c.args.members.now in
    let none : Sleeper = record { process = 0; control = 0 } in
    upto_more Is sleepers i c.loop-place.invariant
    (λ d.
    subst Is (get_or_default sleepers i none d within)
    (record {
      outside = c.is_sleeper.ensures.outside c.if-not-is_sleeper.false;
      idle = c.is_sleeper.ensures.idle c.if-not-is_sleeper.false;
      waits = c.is_sleeper.ensures.waits c.if-not-is_sleeper.false;
    }))

pub returns-clause-outside : goal.returns-clause-outside
returns-clause-outside c = λ on q there.
    of_sleeping (λ (p : ℕ). contains c.args.members.now p ≡ false) c.args.sleepers.now q (λ k d within. (c.loop-place.invariant k d (omega (arith, within))).outside) there

pub returns-clause-idle : goal.returns-clause-idle
returns-clause-idle c = λ on q there.
    of_sleeping (λ (p : ℕ). evaluations_in p (state_at c.args.machine.now).active ≡ 0) c.args.sleepers.now q (λ k d within. (c.loop-place.invariant k d (omega (arith, within))).idle) there

pub returns-clause-wait : goal.returns-clause-wait
returns-clause-wait c = λ on k d within. (c.loop-place.invariant k d (omega (arith, within))).waits

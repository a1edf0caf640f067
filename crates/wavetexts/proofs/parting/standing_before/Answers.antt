-- One line more, until there are no more.
use Rattle.std.proofs.Common.{ℕ, ◌-◌, List, [], length, take, rules, arith, subst, sym}
use Rattle.wavetexts.specs.AtTimes.{left_after, lines_of}
use Rattle.wavetexts.specs.Partings.{TextStandsBehind, time_after}
use Rattle.wavetexts.proofs.TextStanding.{stands_done, stands_last, stands_on}
use Rattle.wavetexts.proofs.parting.standing_before.Goals as goal

pub loop-before-init : goal.loop-before-init
loop-before-init c = λ left time stands. stands

pub loop-before-preserved : goal.loop-before-preserved
loop-before-preserved c = λ left time stands.
    let s = c.loop-before.standing in
    let registers = c.args.registers in
    let rest = take (c.loop-before.before - 1 - 1) (lines_of c.in-Some.more.now) in
    c.loop-before.invariant left time
    (stands_on registers left time s.left s.time.now c.loop-before.before c.in-Some.line.now (lines_of c.loop-before.rest.now) (lines_of c.in-Some.more.now) (omega (arith, c.loop-before-test.true)) c.in-Some.ensures.some
    (subst (λ (n : ℕ). TextStandsBehind registers left time n (time_after s.left c.in-Some.line.now s.time.now) rest) c.stand_on-standing.ensures.left
    (subst (λ (at : List ℕ). TextStandsBehind registers left time c.stand_on-standing.result.left at rest) c.stand_on-standing.ensures.time stands)))

pub returns-in-None : goal.returns-in-None
returns-in-None c =
    c.loop-before.invariant c.loop-before.standing.left c.loop-before.standing.time.now
    (stands_last c.args.registers c.loop-before.standing.left c.loop-before.standing.time.now (c.loop-before.before - 1) (lines_of c.loop-before.rest.now) c.in-None.ensures.none)

pub returns : goal.returns
returns c =
    c.loop-before.invariant c.loop-before.standing.left c.loop-before.standing.time.now
    (stands_done c.args.registers c.loop-before.standing.left c.loop-before.standing.time.now (c.loop-before.before - 1) (lines_of c.loop-before.rest.now) (omega (arith, c.loop-before-test.false)))

-- The seat is led along the entries, one after another.
use Rattle.std.proofs.Common.{arith, refl}
use Rattle.drive.proofs.Running.{led_more, led_all, first_unlawful}
use Rattle.drive.proofs.run.lead_all.Goals as goal

pub loop-done-init : goal.loop-done-init
loop-done-init g c = (c.requires.alone, c.requires.begins)

pub loop-done-preserved : goal.loop-done-preserved
loop-done-preserved g c =
    led_more g.K.Naming.named c.args.entries.now c.loop-done.done _ c.loop-done.seat c.lead-next.result.0 c.lead-next.new.hand.tickets.items c.lead-next.result.1 c.loop-done.invariant.1 c.lead-next.ensures c.in-Appended.is
    (omega (arith, c.loop-done-test.true, c.loop-done.auto.done-end)) refl

pub returns-in-Unlawful-clause-refused : goal.returns-in-Unlawful-clause-refused
returns-in-Unlawful-clause-refused g c =
    first_unlawful g.K.Naming.named c.args.entries.now c.loop-done.done _ c.loop-done.seat c.lead-next.result.0 c.loop-done.hand.tickets.items c.lead-next.new.hand.tickets.items c.lead-next.result.1 c.loop-done.invariant.0 c.loop-done.invariant.1 c.lead-next.ensures
    c.in-Unlawful.is (omega (arith, c.loop-done-test.true, c.loop-done.auto.done-end)) refl

pub returns-clause-led : goal.returns-clause-led
returns-clause-led g c =
    (c.loop-done.invariant.0, led_all c.args.entries.now c.loop-done.done c.loop-done.seat c.loop-done.invariant.1 (omega (arith, c.loop-done-test.false, c.loop-done.auto.done-end)))

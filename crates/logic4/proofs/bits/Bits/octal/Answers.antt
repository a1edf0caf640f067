use Rattle.std.proofs.Common.{◌≡◌, ◌-◌, ◌*◌, refl, ap, ◌∙◌, arith, drop}
use Rattle.logic4.specs.Display.{hex_group_text, octal_text}
use Rattle.logic4.specs.Leading.{led}
use Rattle.logic4.proofs.Texts.{group_push, octal_front, led_start}
use Rattle.logic4.proofs.bits.Bits.octal.Goals as goal

pub loop-group-init : goal.loop-group-init
loop-group-init c = led_start octal_text c.args.zeros c.args.self _ _ refl c.in_ok-text.ensures.bytes (omega (arith, c.width-width.ensures.value))

pub loop-group-preserved : goal.loop-group-preserved
loop-group-preserved c =
    c.in_ok-put.ensures
    ∙ group_push octal_text hex_group_text 3 octal_front c.args.zeros c.args.self _ (3 * (c.loop-group.group - 1)) (3 * c.loop-group.group) _ _ _ (omega (arith, c.loop-group-test.true)) (omega (arith, c.loop-group-test.true, c.width-width.ensures.value)) c.part-three.ensures.value (omega (arith, c.width-width.ensures.value)) c.loop-group.invariant c.hex_letter.ensures.text

pub returns : goal.returns
returns c =
    let none : 3 * c.loop-group.group ≡ 0 = omega arith in
    c.loop-group.invariant ∙ ap (λ k. led c.args.zeros (octal_text (drop k c.args.self))) none

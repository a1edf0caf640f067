use Rattle.std.proofs.Common.{◌≡◌, ◌-◌, ◌*◌, refl, ap, ◌∙◌, arith, drop}
use Rattle.logic4.specs.Display.{hex_group_text, hex_text}
use Rattle.logic4.specs.Leading.{led}
use Rattle.logic4.proofs.Texts.{group_push, hex_front, led_start}
use Rattle.logic4.proofs.bits.Bits.hex.Goals as goal

pub loop-group-init : goal.loop-group-init
loop-group-init c = led_start hex_text c.args.zeros c.args.self _ _ refl c.in_ok-text.ensures.bytes (omega (arith, c.width-width.ensures.value))

pub loop-group-preserved : goal.loop-group-preserved
loop-group-preserved c =
    c.in_ok-put.ensures
    ∙ group_push hex_text hex_group_text 4 hex_front c.args.zeros c.args.self _ (4 * (c.loop-group.group - 1)) (4 * c.loop-group.group) _ _ _ (omega (arith, c.loop-group-test.true)) (omega (arith, c.loop-group-test.true, c.width-width.ensures.value)) c.part-part.ensures.value (omega (arith, c.width-width.ensures.value)) c.loop-group.invariant c.hex_letter.ensures.text

pub returns : goal.returns
returns c =
    let none : 4 * c.loop-group.group ≡ 0 = omega arith in
    c.loop-group.invariant ∙ ap (λ k. led c.args.zeros (hex_text (drop k c.args.self))) none

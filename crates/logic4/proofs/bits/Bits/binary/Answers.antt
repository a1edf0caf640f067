use Rattle.std.proofs.Common.{◌≡◌, ◌-◌, refl, ap, ◌∙◌, arith, drop}
use Rattle.logic4.specs.Display.{digit_text, binary_text}
use Rattle.logic4.specs.Leading.{led}
use Rattle.logic4.proofs.Texts.{binary_push, led_start}
use Rattle.logic4.proofs.bits.Bits.binary.Goals as goal

pub loop-index-init : goal.loop-index-init
loop-index-init c = led_start binary_text c.args.zeros c.args.self _ _ refl c.in_ok-text.ensures.bytes (omega (arith, c.width-width.ensures.value))

pub loop-index-preserved : goal.loop-index-preserved
loop-index-preserved c =
    c.in_ok-put.ensures
    ∙ binary_push c.args.zeros c.args.self (c.loop-index.index - 1) c.loop-index.index _ _ (omega arith) (omega (arith, c.width-width.ensures.value)) c.loop-index.invariant (c.letter.ensures.text ∙ ap digit_text c.digit.ensures)

pub returns : goal.returns
returns c =
    let none : c.loop-index.index ≡ 0 = omega arith in
    c.loop-index.invariant ∙ ap (λ k. led c.args.zeros (binary_text (drop k c.args.self))) none

use Rattle.std.proofs.Common.{◌≡◌, ◌-◌, ◌*◌, ap, ◌∙◌, arith, drop}
use Rattle.logic4.specs.Display.{bytes_of, filled_text}
use Rattle.logic4.specs.Leading.{blank_of}
use Rattle.logic4.proofs.Bytes.{byte_push, no_bytes}
use Rattle.logic4.proofs.bits.Bits.characters.Goals as goal

pub loop-group-init : goal.loop-group-init
loop-group-init c = no_bytes c.args.zeros c.args.self _ _ c.in_ok-text.ensures.bytes (omega (arith, c.width-width.ensures.value))

pub loop-group-preserved : goal.loop-group-preserved
loop-group-preserved c =
    byte_push c.args.zeros c.args.self _ (8 * (c.loop-group.group - 1)) (8 * c.loop-group.group) _ _ _ _ _ _ (omega (arith, c.loop-group-test.true)) (omega (arith, c.loop-group-test.true, c.width-width.ensures.value)) c.part.ensures.value (omega (arith, c.width-width.ensures.value)) c.byte-byte.ensures c.loop-group.invariant.0 c.in_ok-begun.ensures.begun c.loop-group.invariant.1 c.in_ok-begun.ensures.text

pub returns : goal.returns
returns c =
    let none : 8 * c.loop-group.group ≡ 0 = omega arith in
    c.loop-group.invariant.1 ∙ ap (λ k. filled_text (blank_of c.args.zeros) (bytes_of (drop k c.args.self))) none

use Rattle.std.proofs.Common.{◌≡◌, ◌∷◌, ◌+◌, ◌-◌, rules, ◌∙◌, sym, arith}
use Rattle.std.specs.Prelude.{decimal}
use Rattle.logic4.specs.Display.{signed_text}
use Rattle.logic4.proofs.Places.{second_is}
use Rattle.logic4.proofs.Signs.{some_where_negative, negative_text, positive_text, unknown_signed}
use Rattle.logic4.proofs.bits.Bits.show_signed_d0.Goals as goal

pub overflow_sub-value : goal.overflow_sub-value
overflow_sub-value c = omega (arith, c.self-2.invariant.first, c.mask.ensures)

pub overflow_add-value : goal.overflow_add-value
overflow_add-value c =
    let none : c.self-2.inside.b ≡ 0 = second_is c.self-2.invariant c.self-2.view_is ∙ sym (second_is c.self.invariant c.self.view_is) ∙ c.if-self-ne0.false in
    omega (arith, c.self-2.invariant.first, c.mask.ensures, some_where_negative c.self-2.invariant c.self-2.view_is none (sym c.is_negative.ensures ∙ c.if-is_negative.true))

pub returns-then-is_negative : goal.returns-then-is_negative
returns-then-is_negative c =
    let none : c.self-2.inside.b ≡ 0 = second_is c.self-2.invariant c.self-2.view_is ∙ sym (second_is c.self.invariant c.self.view_is) ∙ c.if-self-ne0.false in
    let e : 45 ∷ decimal (c.mask.result - c.self-2.inside.a + 1) ≡ signed_text c.args.self =
    negative_text c.self-2.invariant c.self-2.view_is none (sym c.is_negative.ensures ∙ c.if-is_negative.true) c.mask.result c.mask.ensures in
    rw (← e) (search rules)

pub returns-then-self-ne0 : goal.returns-then-self-ne0
returns-then-self-ne0 c =
    let e = unknown_signed c.self.invariant c.self.view_is c.if-self-ne0.true in
    rw (← e) (search rules)

pub returns : goal.returns
returns c =
    let e = positive_text c.self.invariant c.self.view_is c.if-self-ne0.false (sym c.is_negative.ensures ∙ c.if-is_negative.false) in
    rw (← e) (search rules)

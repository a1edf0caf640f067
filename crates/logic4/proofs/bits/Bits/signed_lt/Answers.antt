use Rattle.std.proofs.Common.{◌∙◌, ◌∷◌, [], ap}
use Rattle.logic4.specs.Operators.{bool_digit}
use Rattle.logic4.proofs.Pairs.{both_zero, known_digit_where, unknown_digit_where}
use Rattle.logic4.proofs.Signs.{signed_less}
use Rattle.logic4.proofs.bits.Bits.signed_lt.Goals as goal

pub returns-then-self-other-eq0-clause-value : goal.returns-then-self-other-eq0-clause-value
returns-then-self-other-eq0-clause-value c =
    c.from_bool.ensures.value
    ∙ ap (λ d. d ∷ [])
    (ap bool_digit
    (signed_less c.self.invariant c.other.invariant c.self.view_is c.other.view_is (both_zero _ _ c.if-self-other-eq0.true).0 (both_zero _ _ c.if-self-other-eq0.true).1 c.requires _ _ _ c.is_less.ensures c.is_negative.ensures c.is_negative-then-self-other-eq0.ensures)
    ∙ known_digit_where c.self.invariant c.other.invariant c.self.view_is c.other.view_is c.if-self-other-eq0.true _)

pub returns-else-self-other-eq0-clause-value : goal.returns-else-self-other-eq0-clause-value
returns-else-self-other-eq0-clause-value c =
    c.from_digit.ensures.value
    ∙ ap (λ d. d ∷ []) (unknown_digit_where c.self.invariant c.other.invariant c.self.view_is c.other.view_is c.if-self-other-eq0.false _)

use Rattle.std.proofs.Common.{◌∙◌, ◌∷◌, [], ap}
use Rattle.logic4.proofs.Pairs.{less, unknown_digit_where}
use Rattle.logic4.proofs.bits.Bits.lt.Goals as goal

pub returns-then-self-other-eq0-clause-value : goal.returns-then-self-other-eq0-clause-value
returns-then-self-other-eq0-clause-value c =
    c.from_bool.ensures.value ∙ ap (λ d. d ∷ []) (less c.self.invariant c.other.invariant c.self.view_is c.other.view_is c.if-self-other-eq0.true)

pub returns-else-self-other-eq0-clause-value : goal.returns-else-self-other-eq0-clause-value
returns-else-self-other-eq0-clause-value c =
    c.from_digit.ensures.value
    ∙ ap (λ d. d ∷ []) (unknown_digit_where c.self.invariant c.other.invariant c.self.view_is c.other.view_is c.if-self-other-eq0.false _)

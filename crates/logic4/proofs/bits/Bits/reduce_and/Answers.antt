use Rattle.std.proofs.Common.{◌∙◌, ◌∷◌, [], sym, ap}
use Rattle.logic4.specs.Operators.{reduce_and}
use Rattle.logic4.proofs.Reductions.{and_all_ones, and_unknown, and_some_zero}
use Rattle.logic4.proofs.bits.Bits.reduce_and.Goals as goal

pub returns-then-self-mask-clause-value : goal.returns-then-self-mask-clause-value
returns-then-self-mask-clause-value c =
    c.from_digit.ensures.value
    ∙ ap (λ d. d ∷ []) (and_some_zero _ _ _ c.self.invariant.first c.self.invariant.second (λ e. c.if-self-mask.true (e ∙ sym c.mask.ensures)) ∙ ap reduce_and c.self.view_is)

pub returns-then-self-ne0-clause-value : goal.returns-then-self-ne0-clause-value
returns-then-self-ne0-clause-value c =
    c.from_digit-then-self-ne0.ensures.value
    ∙ ap (λ d. d ∷ []) (and_unknown _ _ _ c.self.invariant.second (c.if-self-mask.false ∙ c.mask.ensures) c.if-self-ne0.true ∙ ap reduce_and c.self.view_is)

pub returns-else-self-ne0-clause-value : goal.returns-else-self-ne0-clause-value
returns-else-self-ne0-clause-value c =
    c.from_digit-else-self-ne0.ensures.value
    ∙ ap (λ d. d ∷ []) (and_all_ones _ _ _ (c.if-self-mask.false ∙ c.mask.ensures) c.if-self-ne0.false ∙ ap reduce_and c.self.view_is)

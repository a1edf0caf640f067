use Rattle.std.proofs.Common.{◌%◌, ◌∙◌, ◌∷◌, [], sym, ap}
use Rattle.logic4.specs.Operators.{reduce_xor}
use Rattle.logic4.proofs.Reductions.{xor_unknown, xor_known_at}
use Rattle.logic4.proofs.bits.Bits.reduce_xor.Goals as goal

pub returns-then-self-eq0-clause-value : goal.returns-then-self-eq0-clause-value
returns-then-self-eq0-clause-value c =
    c.from_u64.ensures.value
    ∙ ap (λ d. d ∷ []) (xor_known_at _ _ _ _ c.self.invariant.first c.if-self-eq0.true (ap (λ n. n % 2) (sym c.from.ensures)) ∙ ap reduce_xor c.self.view_is)

pub returns-else-self-eq0-clause-value : goal.returns-else-self-eq0-clause-value
returns-else-self-eq0-clause-value c =
    c.from_digit.ensures.value
    ∙ ap (λ d. d ∷ []) (xor_unknown _ _ _ c.self.invariant.second c.if-self-eq0.false ∙ ap reduce_xor c.self.view_is)

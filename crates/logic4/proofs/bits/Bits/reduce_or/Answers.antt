use Rattle.std.proofs.Common.{◌∙◌, ◌∷◌, [], ap}
use Rattle.logic4.specs.Operators.{truth_digit}
use Rattle.logic4.proofs.Reductions.{truth_digit-truth}
use Rattle.logic4.proofs.bits.Bits.reduce_or.Goals as goal

pub returns-in-False-clause-value : goal.returns-in-False-clause-value
returns-in-False-clause-value c =
    c.from_digit.ensures.value ∙ ap (λ d. d ∷ []) (ap truth_digit c.in-False.ensures ∙ truth_digit-truth c.args.self)

pub returns-in-True-clause-value : goal.returns-in-True-clause-value
returns-in-True-clause-value c =
    c.from_digit-in-True.ensures.value ∙ ap (λ d. d ∷ []) (ap truth_digit c.in-True.ensures ∙ truth_digit-truth c.args.self)

pub returns-in-Unknown-clause-value : goal.returns-in-Unknown-clause-value
returns-in-Unknown-clause-value c =
    c.from_digit-in-Unknown.ensures.value ∙ ap (λ d. d ∷ []) (ap truth_digit c.in-Unknown.ensures ∙ truth_digit-truth c.args.self)

-- The registers of its logic are kept.
use Rattle.std.proofs.Common.{◌∙◌, ℕ, List, ap}
use Rattle.model.specs.Turns.{contains}
use Rattle.settling.proofs.between.is_untouched.Goals as goal

pub returns-clause-inputs : goal.returns-clause-inputs
returns-clause-inputs c = λ on r there.
    c.are_kept.ensures c.if-not-are_kept.false r (ap (λ (l : List ℕ). contains l r) c.as_slice.ensures.value ∙ there)

pub returns-clause-outputs : goal.returns-clause-outputs
returns-clause-outputs c = λ on r there.
    c.are_kept-2.ensures on r (ap (λ (l : List ℕ). contains l r) c.as_slice-2.ensures.value ∙ there)

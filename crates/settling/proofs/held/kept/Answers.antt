-- Those that are left are among those that were.
use Rattle.std.proofs.Common.{◌∙◌, ℕ, List, ap, sym}
use Rattle.model.specs.Turns.{contains}
use Rattle.settling.proofs.held.kept.Goals as goal

pub returns-then-len : goal.returns-then-len
returns-then-len c = λ p there. c.loop.invariant p (ap (λ (l : List ℕ). contains l p) (sym c.deref.ensures.value) ∙ c.in_ok-fewer.ensures p there)

pub loop-preserved : goal.loop-preserved
loop-preserved c = λ p there. c.loop.invariant p (ap (λ (l : List ℕ). contains l p) (sym c.deref.ensures.value) ∙ c.in_ok-fewer.ensures p there)

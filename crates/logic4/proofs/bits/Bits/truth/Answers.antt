use Rattle.std.proofs.Common.{◌∙◌, ap}
use Rattle.logic4.specs.declared.digit.Truth.TheVariants.{False, True, Unknown}
use Rattle.logic4.specs.Operators.{reduce_or}
use Rattle.logic4.proofs.Reductions.{or_zeros, or_unknown, or_some_one, truth_is}
use Rattle.logic4.proofs.bits.Bits.truth.Goals as goal

pub returns-then-self : goal.returns-then-self
returns-then-self c =
    truth_is c.args.self True (or_some_one _ _ _ c.self.invariant.first c.self.invariant.second c.if-self.true ∙ ap reduce_or c.self.view_is)

pub returns-then-self-ne0 : goal.returns-then-self-ne0
returns-then-self-ne0 c =
    truth_is c.args.self Unknown (or_unknown _ _ _ c.self.invariant.second c.if-self.false c.if-self-ne0.true ∙ ap reduce_or c.self.view_is)

pub returns-else-self-ne0 : goal.returns-else-self-ne0
returns-else-self-ne0 c = truth_is c.args.self False (or_zeros _ _ _ c.if-self.false c.if-self-ne0.false ∙ ap reduce_or c.self.view_is)

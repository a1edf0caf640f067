use Rattle.logic4.proofs.Texts.{blank_more}
use Rattle.logic4.proofs.bits.decimals.justified.Goals as goal

pub loop-blank-preserved : goal.loop-blank-preserved
loop-blank-preserved c = blank_more _ _ _ c.loop-blank.invariant c.in_ok-push_letter.ensures

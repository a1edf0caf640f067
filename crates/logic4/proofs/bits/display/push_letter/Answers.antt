use Rattle.logic4.proofs.Texts.{pushed}
use Rattle.logic4.proofs.bits.display.push_letter.Goals as goal

pub returns : goal.returns
returns c = pushed _ _ _ _ _ c.in_ok-push.ensures.bytes c.push.ensures.ascii c.from.ensures c.requires

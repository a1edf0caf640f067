-- Of numbers whose masks have no bit in common none is among both.
use Rattle.certificates.proofs.Masks.{masks_apart}
use Rattle.certificates.proofs.mask.Mask.may_meet.Goals as goal

pub returns : goal.returns
returns c = λ has among masked masked' none n there. masks_apart has among c.args.self c.args.other masked masked' none n there

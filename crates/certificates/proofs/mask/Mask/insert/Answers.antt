-- The mask has the bit of the new number too.
use Rattle.certificates.proofs.Masks.{masked_more}
use Rattle.certificates.proofs.mask.Mask.insert.Goals as goal

pub returns : goal.returns
returns c = λ has masked. masked_more has c.args.self.now c.args.number c.bit_of.result c.bit_of.ensures masked

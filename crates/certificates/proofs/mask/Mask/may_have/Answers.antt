-- A number whose bit isn't in the mask is none of them.
use Rattle.certificates.proofs.Masks.{not_masked}
use Rattle.certificates.proofs.mask.Mask.may_have.Goals as goal

pub returns : goal.returns
returns c = λ has masked none. not_masked has c.args.self c.args.number c.bit_of.result c.bit_of.ensures masked none
